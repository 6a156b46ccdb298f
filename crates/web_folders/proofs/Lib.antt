mod FileTagLemmas
mod FolderLemmas
mod HeaderLemmas
mod MediaTypeLemmas
