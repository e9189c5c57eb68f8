-- What is fixed while one log is looked at: which log, how its names and contents are numbers, and what each group id names.
use Rattle.std.specs.Prelude.{◌≡◌, ℕ, suc, ◌<◌, ◌==◌, Bool, if◌then◌else◌, List, [], length}
use Rattle.xfs_base.specs.declared.fragment.Fragment.{Fragment}
use Rattle.xfs_base.specs.declared.segment.LogId.{LogId}
use Rattle.xfs_base.specs.declared.segment.Pass.{Pass}
use Rattle.xfs_base.specs.declared.segment.SegName.{SegName}
use Rattle.segment_format.specs.declared.segment.Item.{Item}
use Rattle.segment_format.specs.declared.segment.Segment.{Segment}
use Rattle.stripe_code.specs.Fragments.{fragment_of as cut_fragment}
use Rattle.group_map.specs.declared.group.Group.{Group}
use Rattle.group_map.specs.declared.group.Member.{Member}
use Rattle.group_map.specs.GroupMapState.{GroupMapState}
use Rattle.group_map.specs.Groups.{generation_at}
use Rattle.log_flight.specs.Fate.{has_server}
use Rattle.log_flight.specs.Flights.{generation_of, group_for, server_of}
use Rattle.log_protocol.specs.State.{Names}

-- over which members a segment is striped, and how many of its fragments are parity
pub record Stripe : Type 0 where
  pub members : List Member
  pub parity : ℕ

abbrev pub stripe_of_group : Group → Stripe
stripe_of_group group = record { members = group.members; parity = group.parity }

-- the generation of a server as the map has it; of no server it is 0
abbrev pub present_at : GroupMapState → ℕ → ℕ
present_at m server = if has_server m server then generation_at m.generations server else 0

pub record Setting : Type 0 where
  pub log : LogId
  -- the servers are 1 .. servers
  pub servers : ℕ
  -- whether restarts may be doubtful
  pub doubts : Bool
  -- each group id names one stripe, for ever and everywhere
  pub stripe : ℕ → Stripe
  -- texts and contents as numbers
  pub number : List ℕ → ℕ
  pub content : List Item → ℕ
  pub no_content : content [] ≡ 0
  -- names as numbers
  pub code : ℕ → ℕ → ℕ → ℕ
  pub seq_of : ℕ → ℕ
  pub incarnation_of : ℕ → ℕ
  pub attempt_of : ℕ → ℕ
  pub its_seq : (q c a : ℕ) → seq_of (code q c a) ≡ q
  pub its_incarnation : (q c a : ℕ) → incarnation_of (code q c a) ≡ c
  pub its_attempt : (q c a : ℕ) → attempt_of (code q c a) ≡ a
  pub names : Names seq_of incarnation_of attempt_of

-- the name that a number is
abbrev pub name_of : Setting → ℕ → SegName
name_of g x = record { log = g.log; seq = g.seq_of x; pass = record { inc = g.incarnation_of x; att = g.attempt_of x } }

-- the number of an end, or of a prior: 0 where its pass is none
abbrev pub point : Setting → ℕ → Pass → ℕ
point g seq pass = if pass.inc == 0 then 0 else g.code seq pass.inc pass.att

-- a segment's fragment at a place of a stripe, and of the stripe that its group names
abbrev pub fragment_over : Segment → Stripe → ℕ → Fragment
fragment_over s stripe place = cut_fragment s (length stripe.members) stripe.parity place

abbrev pub fragment_of : Setting → Segment → ℕ → Fragment
fragment_of g s place = fragment_over s (g.stripe s.group) place

-- What is needed of a group that is chosen: it has a member, its servers exist and differ, they are at the map's generations, and its id names its stripe.
pub record IsStripe (g : Setting) (m : GroupMapState) (group : Group) : Type 0 where
  pub some : 0 < length group.members
  pub exist : (j : ℕ) → j < length group.members → server_of group.members j < suc g.servers
  pub differ : (i j : ℕ) → i < length group.members → j < length group.members → server_of group.members i ≡ server_of group.members j → i ≡ j
  pub present : (j : ℕ) → j < length group.members → generation_of group.members j ≡ present_at m (server_of group.members j)
  pub named : g.stripe group.id ≡ stripe_of_group group

abbrev pub IsMap : Setting → GroupMapState → Type 0
IsMap g m = (log seq : ℕ) → IsStripe g m (group_for m log seq)
