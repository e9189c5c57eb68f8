-- The pieces of the text of a picture that are always the same.
use Rattle.std.specs.Prelude.{ℕ, List, [], ◌∷◌, ◌++◌, codes}

-- the head of the text, up to its width
unfoldable pub svg_open : List ℕ
svg_open = codes "<svg xmlns='http://www.w3.org/2000/svg' width='"

-- what stands before the height
unfoldable pub svg_height : List ℕ
svg_height = codes "' height='"

-- what stands behind the height
unfoldable pub svg_font : List ℕ
svg_font = codes "' font-family='sans-serif' font-size='9'>" ++ 10 ∷ []

-- what a picture shows
unfoldable pub title_line : List ℕ
title_line = codes "<text x='20' y='20' font-size='13' font-weight='bold'>A run: a row an event, time downward</text>"

-- what a grey bar means
unfoldable pub bar_sign : List ℕ
bar_sign = codes "<g transform='translate(320,40)'><path class='out' d='M0-7h6v14h-6z'/><text x='12' y='3'>doesn't serve</text></g>"

-- what a cross means
unfoldable pub cross_sign : List ℕ
cross_sign = codes "<g transform='translate(420,40)' class='maps'><path d='M0 0L18 4M15 1l6 6M21 1l-6 6'/><text x='28' y='3'>never delivered</text></g>"

-- what begins a part that stands at a place
unfoldable pub moved_to : List ℕ
moved_to = codes "<g transform='translate("

-- what stands before the name of a node
unfoldable pub name_open : List ℕ
name_open = codes ",0)'><text y='84' text-anchor='middle' font-weight='bold'>"

-- what ends a text
unfoldable pub text_close : List ℕ
text_close = codes "</text>"

-- what begins a column's line
unfoldable pub life_open : List ℕ
life_open = codes "<line y1='90' y2='"

-- what ends it
unfoldable pub life_close : List ℕ
life_close = codes "' class='life'/></g>" ++ 10 ∷ []

-- what ends a sample
unfoldable pub sample_close : List ℕ
sample_close = codes "</text></g>"

-- what shows an arrow
unfoldable pub arrow_open : List ℕ
arrow_open = codes "'><line x2='22' marker-end='url(#tip)'/><text x='28' y='3'>"

-- the row of arrows in the legend
unfoldable pub arrow_row : List ℕ
arrow_row = codes ",40)' class='"

-- what shows a circle
unfoldable pub circle_open : List ℕ
circle_open = codes "'><circle r='3'/><text x='8' y='3'>"

-- the row of circles in the legend
unfoldable pub circle_row : List ℕ
circle_row = codes ",58)' class='"

-- what stands before what is written at a row
unfoldable pub words_open : List ℕ
words_open = codes "><text x='6' y='-2'>"

-- what stands before a class
unfoldable pub class_open : List ℕ
class_open = codes " class='"

-- what stands before the turn of a short arrow
unfoldable pub turned_by : List ℕ
turned_by = codes "'><path transform='rotate("

-- a short arrow that ends in a cross
unfoldable pub cross_path : List ℕ
cross_path = codes ")' d='M0 0L18 4M15 1l6 6M21 1l-6 6'/>"

-- what stands before the place of a circle
unfoldable pub circle_at : List ℕ
circle_at = codes "'><circle cx='-"

-- what ends a circle
unfoldable pub circle_close : List ℕ
circle_close = codes "' r='3'/>"

-- a grey bar
unfoldable pub bar_path : List ℕ
bar_path = codes " class='out'><path d='M-3-7h6v14h-6z'/>"

-- what ends a mark
unfoldable pub mark_end : List ℕ
mark_end = codes "</g>" ++ 10 ∷ []

-- what ends an arrow
unfoldable pub arrow_tip : List ℕ
arrow_tip = codes "' marker-end='url(#tip)'/>"
