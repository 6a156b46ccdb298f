pub mod Drawing
pub mod ScriptTexts
