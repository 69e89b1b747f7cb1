mod AtEnd
mod Telling
