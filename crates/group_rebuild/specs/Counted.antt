-- What is counted, and where a fragment that is filled in comes from.
use Rattle.std.specs.Prelude.{◌≡◌, ℕ, ◌+◌, Bool, true, false, ◌==◌, ◌&&◌, if◌then◌else◌, List, [], ◌∷◌, ◌++◌, Option, Some, None, filter, length}
use Rattle.stripe_code.specs.Round.{round_take, state_of}
use Rattle.stripe_code.specs.declared.round.RoundState.{RoundState}
use Rattle.stripe_code.specs.declared.round.RoundState.TheVariants.{Read, Short, Waiting}
use Rattle.stripe_code.specs.declared.round.Told.{Told}
use Rattle.xfs_base.specs.declared.fragment.Fragment.{Fragment}
use Rattle.group_rebuild.specs.declared.reads.Present.{Present}
use Rattle.group_rebuild.specs.declared.output.Out.{Out}
use Rattle.group_rebuild.specs.declared.output.Out.TheVariants as out
use Rattle.group_rebuild.specs.Reads.{ReadsState, reads_of, go_on, counts, reads_take}
use Rattle.group_rebuild.specs.declared.wanted.Wanted.{Wanted}
use Rattle.group_rebuild.specs.Wanted.{refilled}

abbrev pub count_of : Option Present → ℕ
count_of None = 0
count_of (Some p) = 1

-- the names that were filled or are gone, and those still to come
abbrev pub names_in : ReadsState → ℕ
names_in r = r.filled + r.gone + count_of r.present + length r.left

-- The round over the other members of the present segment gave a text, with this answer, and the fragment is the server's of
-- the stripe of that text.
pub record IsFilledFrom (r : ReadsState) (server : ℕ) (told : Told) (f : Fragment) : Type 0 where
  pub present : Present
  pub is_read : r.present ≡ Some present
  pub text : List ℕ
  pub read : state_of (round_take present.round server told) ≡ Read text
  pub cut : f ≡ refilled present.wanted text

-- what a server told, and in answer to which question
pub record Reply : Type 0 where
  pub ask : ℕ
  pub server : ℕ
  pub told : Told

-- the reading after these replies, in their order
abbrev pub after_replies : ReadsState → List Reply → ReadsState
after_replies r [] = r
after_replies r (a ∷ rest) = after_replies (reads_take r a.ask a.server a.told).state rest

-- the reading of these names after these replies
abbrev pub reading_after : List Wanted → List Reply → ReadsState
reading_after wanted replies = after_replies (go_on wanted (reads_of wanted)).state replies

-- ---- what is told at the end

abbrev pub is_fill : Out → Bool
is_fill (out.List server) = false
is_fill (out.Fetch server name ask) = false
is_fill (out.Fill fragment) = true
is_fill (out.Finished filled gone) = false

-- how many of these fill a fragment in
abbrev pub fills_in : List Out → ℕ
fills_in outs = length (filter is_fill outs)

-- what is said to these replies, in their order
abbrev pub said_to : ReadsState → List Reply → List Out
said_to r [] = []
said_to r (a ∷ rest) = (reads_take r a.ask a.server a.told).outs ++ said_to (reads_take r a.ask a.server a.told).state rest

abbrev pub is_short : RoundState → Bool
is_short (Read text) = false
is_short (Short pairs) = true
is_short Waiting = false

-- whether a reply counts and is the last of its round, which has too few fragments
abbrev pub ends_short : ReadsState → Option Present → Reply → Bool
ends_short r None a = false
ends_short r (Some p) a = ((a.ask == r.ask) && counts p a.server a.told) && is_short (state_of (round_take p.round a.server a.told))

-- how many rounds these replies end with too few fragments
abbrev pub shorts_by : ReadsState → List Reply → ℕ
shorts_by r [] = 0
shorts_by r (a ∷ rest) = (if ends_short r r.present a then 1 else 0) + shorts_by (reads_take r a.ask a.server a.told).state rest

-- so many fragments were said to be filled in over these replies, and so many rounds ended with too few fragments
pub record AreTallied (wanted : List Wanted) (replies : List Reply) (filled gone : ℕ) : Type 0 where
  pub fills : filled ≡ fills_in (said_to (go_on wanted (reads_of wanted)).state replies)
  pub shorts : gone ≡ shorts_by (go_on wanted (reads_of wanted)).state replies
