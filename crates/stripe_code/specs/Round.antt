-- One round: what was asked, what was told so far, and how it stands.
use Rattle.std.specs.Prelude.{◌≡◌, ℕ, ◌-◌, ◌<◌, Bool, true, ◌==◌, ◌&&◌, nat_lt, nat_le, if◌then◌else◌, List, [], ◌∷◌, ◌++◌, length, map, All, Option, Some, None, is_some, unwrap_or, count_by, filter, not}
use Rattle.std.specs.List.{list_any, list_all, range_with_len}
use Rattle.xfs_base.specs.declared.fragment.Fragment.{Fragment}
use Rattle.stripe_code.specs.declared.round.Answer.{Answer}
use Rattle.stripe_code.specs.declared.round.RoundState.{RoundState}
use Rattle.stripe_code.specs.declared.round.RoundState.TheVariants.{Read, Short, Waiting}
use Rattle.stripe_code.specs.declared.round.Told.{Told}
use Rattle.stripe_code.specs.declared.round.Told.TheVariants.{Held, Missing}
use Rattle.stripe_code.specs.Joined.{joined}
use Rattle.stripe_code.specs.Stripe.{IsCut, part_len}

-- a segment cut for n members is asked for of these servers, and these answers count, in the order in which they came
pub record RoundSoFar : Type 0 where
  pub n : ℕ
  pub parity : ℕ
  pub servers : List ℕ
  pub answers : List Answer

abbrev pub round_start : ℕ → ℕ → List ℕ → RoundSoFar
round_start n parity servers = record { n = n; parity = parity; servers = servers; answers = [] }

-- how many pieces the text has
abbrev pub count_of : RoundSoFar → ℕ
count_of r = r.n - r.parity

abbrev pub has_answered : List Answer → ℕ → Bool
has_answered answers server = list_any (λ a. a.server == server) answers

abbrev pub asks : RoundSoFar → ℕ → Bool
asks r server = list_any (λ s. s == server) r.servers

-- the servers that have not answered, in order
abbrev pub unanswered : RoundSoFar → List ℕ
unanswered r = filter (λ server. not (has_answered r.answers server)) r.servers

-- the same round before any answer
abbrev pub anew : RoundSoFar → RoundSoFar
anew r = round_start r.n r.parity r.servers

-- what a server told, where it is the first that it tells
unfoldable pub round_take : RoundSoFar → ℕ → Told → RoundSoFar
round_take r server told = if has_answered r.answers server then r else record r { answers = r.answers ++ record { server = server; told = told } ∷ [] }

-- ---- what is in

abbrev pub len_told : Told → Option ℕ → Option ℕ
len_told (Held f) others = Some f.meta.len
len_told (Missing g) others = others

-- the length of the segment, as the first fragment says
abbrev pub len_in : List Answer → Option ℕ
len_in [] = None
len_in (a ∷ rest) = len_told a.told (len_in rest)

abbrev pub bytes_told : ℕ → Told → Option (List ℕ) → Option (List ℕ)
bytes_told index (Held f) others = if f.meta.index == index then Some f.bytes else others
bytes_told index (Missing g) others = others

-- the bytes of the first fragment of an index
abbrev pub bytes_in : ℕ → List Answer → Option (List ℕ)
bytes_in index [] = None
bytes_in index (a ∷ rest) = bytes_told index a.told (bytes_in index rest)

abbrev pub missing_told : ℕ → Told → List (ℕ × ℕ) → List (ℕ × ℕ)
missing_told server (Held f) others = others
missing_told server (Missing g) others = (server, g) ∷ others

-- the servers that miss the segment, each with its generation
abbrev pub missing_in : List Answer → List (ℕ × ℕ)
missing_in [] = []
missing_in (a ∷ rest) = missing_told a.server a.told (missing_in rest)

-- by index, the bytes that are in
abbrev pub parts_in : ℕ → List Answer → List (Option (List ℕ))
parts_in n answers = map (λ index. bytes_in index answers) (range_with_len 0 n)

-- fragments of as many indexes are in as the text has pieces
abbrev pub is_enough : RoundSoFar → Bool
is_enough r = nat_le (count_of r) (count_by is_some (parts_in r.n r.answers))

abbrev pub all_answered : List Answer → List ℕ → Bool
all_answered answers servers = list_all (λ server. has_answered answers server) servers

-- the text, where enough is in; else the pairs that were Missing, where all have answered; else it waits
unfoldable pub state_of : RoundSoFar → RoundState
state_of r =
    if is_enough r then Read (joined (parts_in r.n r.answers) r.parity (unwrap_or (len_in r.answers) 0))
    else if all_answered r.answers r.servers then Short (missing_in r.answers)
    else Waiting

-- ---- which fragments can be of the segment

-- the length that is said is that of the fragments before
abbrev pub is_as_before : Option ℕ → ℕ → Bool
is_as_before None len = true
is_as_before (Some before) len = len == before

-- the index is below n, the length is that of the fragments before, and there are as many bytes as that asks
abbrev pub fits : RoundSoFar → Fragment → Bool
fits r f = nat_lt f.meta.index r.n && is_as_before (len_in r.answers) f.meta.len && (length f.bytes == part_len f.meta.len (count_of r))

abbrev pub told_fits : RoundSoFar → Told → Bool
told_fits r (Held f) = fits r f
told_fits r (Missing g) = true

-- a fragment of a text of this length, cut into so many pieces for n members
pub record IsPart (n count len : ℕ) (f : Fragment) : Type 0 where
  pub index : f.meta.index < n
  pub says : f.meta.len ≡ len
  pub long : length f.bytes ≡ part_len len count

abbrev pub TellsPart : ℕ → ℕ → ℕ → Told → Type 0
TellsPart n count len (Held f) = IsPart n count len f
TellsPart n count len (Missing g) = Unit {0}

-- what is true of every round
pub record IsRound (r : RoundSoFar) : Type 0 where
  pub cut : IsCut r.n r.parity
  pub parts : All (λ a. TellsPart r.n (count_of r) (unwrap_or (len_in r.answers) 0) a.told) r.answers
