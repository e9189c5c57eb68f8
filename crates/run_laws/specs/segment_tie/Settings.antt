-- A setting for the small world of a log whose contents tell items apart.
use Rattle.std.specs.Prelude.{◌≡◌, List}
use Rattle.log_tie.specs.Setting.{Setting}
use Rattle.segment_format.specs.declared.segment.Item.{Item}

-- no two lists of items are one content
abbrev pub TellsApart : Setting → Type 0
TellsApart g = (a b : List Item) → g.content a ≡ g.content b → a ≡ b

abbrev pub TellingSetting : Type 0
TellingSetting = (g : Setting) × TellsApart g
