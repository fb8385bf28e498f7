-- A signed number, as the code holds it, is that number. Assumes nothing.
use mir.Facts.{to_z-of_z}

pub ruleset signed = (to_z-of_z)
