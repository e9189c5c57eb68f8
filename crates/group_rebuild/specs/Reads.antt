-- Reading the wanted segments, one after the other: what each input makes of it.
use Rattle.std.specs.Prelude.{ℕ, ◌+◌, Bool, true, ◌==◌, ◌&&◌, if◌then◌else◌, min, List, [], ◌∷◌, Option, Some, None, map, All}
use Rattle.std.specs.Option.{ForSome}
use Rattle.stripe_code.specs.Round.{RoundSoFar, round_start, asks, told_fits, round_take, state_of, unanswered}
use Rattle.stripe_code.specs.declared.round.RoundState.{RoundState}
use Rattle.stripe_code.specs.declared.round.RoundState.TheVariants.{Read, Short, Waiting}
use Rattle.stripe_code.specs.declared.round.Told.{Told}
use Rattle.stripe_code.specs.declared.round.Told.TheVariants.{Held, Missing}
use Rattle.xfs_base.specs.declared.segment.SegName.{SegName}
use Rattle.xfs_base.specs.Limits.{u32_end}
use Rattle.xfs_base.specs.Segments.{same_name}
use Rattle.xfs_base.specs.Steps.{Stepped, still, saying}
use Rattle.group_rebuild.specs.declared.output.Out.{Out}
use Rattle.group_rebuild.specs.declared.output.Out.TheVariants.{Fetch, Fill, Finished}
use Rattle.group_rebuild.specs.declared.reads.Present.{Present}
use Rattle.group_rebuild.specs.declared.wanted.Wanted.{Wanted}
use Rattle.group_rebuild.specs.Wanted.{IsWanted, refilled}

-- what is still to be read, what is read at present, the number of its question, how many fragments were filled in, and how
-- many names are gone
pub record ReadsState : Type 0 where
  pub left : List Wanted
  pub present : Option Present
  pub ask : ℕ
  pub filled : ℕ
  pub gone : ℕ

-- each segment may be cut as its group says
pub record AreReads (left : List Wanted) (present : Option Present) : Type 0 where
  pub all : All IsWanted left
  pub now : ForSome present (λ p. IsWanted p.wanted)

-- before the first of these
abbrev pub reads_of : List Wanted → ReadsState
reads_of wanted = record { left = wanted; present = None; ask = 0; filled = 0; gone = 0 }

-- a count rises, but not past its type's end
abbrev pub one_more : ℕ → ℕ
one_more n = min (n + 1) u32_end

-- these servers are asked for their fragments of a segment
abbrev pub fetches : SegName → ℕ → List ℕ → List Out
fetches name ask servers = map (λ server. Fetch server name ask) servers

-- the next round begins, over the other members; or it is over
abbrev pub go_on : List Wanted → ReadsState → Stepped ReadsState Out
go_on [] r = record { state = record r { left = []; present = None }; outs = Finished r.filled r.gone ∷ [] }
go_on (w ∷ ws) r = record {
  state = record r { left = ws; present = Some (record { wanted = w; round = round_start w.n w.parity w.others }); ask = one_more r.ask };
  outs = fetches w.meta.name (one_more r.ask) w.others;
}

-- what is told is of the segment, and says the length that was listed
abbrev pub is_of : Wanted → Told → Bool
is_of w (Held f) = same_name f.meta.name w.meta.name && (f.meta.len == w.meta.len)
is_of w (Missing g) = true

abbrev pub counts : Present → ℕ → Told → Bool
counts p server told = asks p.round server && (is_of p.wanted told && told_fits p.round told)

-- as the round stands: the fragment is filled in and counted, or the name is counted gone, or more answers are awaited
abbrev pub reads_judge : ReadsState → Wanted → RoundSoFar → RoundState → Stepped ReadsState Out
reads_judge r w round (Read text) = saying (Fill (refilled w text) ∷ []) (go_on r.left (record r { filled = one_more r.filled }))
reads_judge r w round (Short pairs) = go_on r.left (record r { gone = one_more r.gone })
reads_judge r w round Waiting = still (record r { present = Some (record { wanted = w; round = round }) })

abbrev pub answered : ReadsState → Option Present → ℕ → ℕ → Told → Stepped ReadsState Out
answered r None ask server told = still r
answered r (Some p) ask server told =
    if (ask == r.ask) && counts p server told
    then reads_judge r p.wanted (round_take p.round server told) (state_of (round_take p.round server told))
    else still r

-- what a server told in answer to a question
unfoldable pub reads_take : ReadsState → ℕ → ℕ → Told → Stepped ReadsState Out
reads_take r ask server told = answered r r.present ask server told

abbrev pub asked_again : ℕ → Option Present → List Out
asked_again ask None = []
asked_again ask (Some p) = fetches p.wanted.meta.name ask (unanswered p.round)

-- what is unanswered is asked again
abbrev pub on_tick : ReadsState → List Out
on_tick r = asked_again r.ask r.present
