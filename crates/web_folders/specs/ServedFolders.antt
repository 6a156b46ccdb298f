-- A folder that is served, as contracts see it.
use Rattle.web_folders.specs.declared.settings.FolderSettings.{FolderSettings}

pub record ServedFolder (F : Type 0) : Type 0 where
  pub files : F
  pub settings : FolderSettings
