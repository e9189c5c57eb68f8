-- That the falls of a run are apart.
use Rattle.std.specs.Prelude.{◌≡◌, List, [], ◌∷◌}
use Rattle.version_model.specs.declared.act.Act.{Act}
use Rattle.version_model.specs.declared.act.Act.TheVariants.{Answered, Back, Dropped, Fell, Filed, Lost, Read, Synced, Wrote}
use Rattle.version_model.specs.Effects.{after_act}
use Rattle.version_model.specs.History.{History, nothing_yet}
use Rattle.version_model.specs.Legal.{NamesNoBlockTwice}

-- A client falls only while no fall of it waits, and a fall names no block twice. Every other act is apart.
abbrev pub IsApart : Act → History → Type 0
IsApart (Wrote client block value) h = Unit {0}
IsApart (Read client block ver value) h = Unit {0}
IsApart (Synced client) h = Unit {0}
IsApart (Fell client flight falls) h = (h.told client ≡ []) × NamesNoBlockTwice falls
IsApart (Back client chain) h = Unit {0}
IsApart (Lost node seg) h = Unit {0}
IsApart (Filed seg) h = Unit {0}
IsApart (Dropped seg) h = Unit {0}
IsApart (Answered node item answer) h = Unit {0}

abbrev pub AreApartFrom : History → List Act → Type 0
AreApartFrom h [] = Unit {0}
AreApartFrom h (a ∷ acts) = IsApart a h × AreApartFrom (after_act a h) acts

abbrev pub FallsApart : List Act → Type 0
FallsApart acts = AreApartFrom nothing_yet acts
