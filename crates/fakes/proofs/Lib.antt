mod FolderLemmas
