mod MetLemmas
mod TellLemmas
mod LoadLemmas
mod WantLemmas
mod ShotLemmas
mod OptionLemmas
