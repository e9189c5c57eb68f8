-- Tables of numbers and of answers, with one entry more.
use Rattle.std.proofs.Common.{◌≡◌, ℕ, ◌+◌, List, min, refl, subst}
use Rattle.std.specs.BTreeMap.{insert_entry}
use Rattle.xfs_base.specs.declared.node.NodeId.{NodeId}
use Rattle.xfs_base.specs.Nodes.{node_cmp}
use Rattle.xfs_base.specs.Limits.{u32_end}
use Rattle.transcript.specs.declared.falls.Fallen.{Fallen}
use Rattle.transcript.specs.declared.replies.ItemName.{ItemName}
use Rattle.transcript.specs.Falls.{FallsState}
use Rattle.transcript.specs.Numbers.{Numbers, last_of, numbers_next}
use Rattle.transcript.specs.Replies.{Table, RepliesState, item_cmp, handed_out, handing_out, gathering_answer}

pub numbers_next_is : (entries view : Numbers) (node : NodeId) (n r : ℕ) → entries ≡ view → n ≡ last_of view node → r ≡ min (n + 1) u32_end
    → insert_entry node_cmp entries node r ≡ numbers_next view node
numbers_next_is entries view node n r e f g = rw (g, f, e) refl

abbrev pub gathering : Table → FallsState → RepliesState
gathering table falls = record { table = table; falls = falls }

pub gathered : (g : RepliesState) (t new : Table) (fl falls : FallsState) (name : ItemName) (place : ℕ) (fallen : List Fallen) → gathering t fl ≡ g
    → new ≡ insert_entry item_cmp t name (record { place = place; fallen = fallen }) → fallen ≡ handed_out fl name.node → falls ≡ handing_out fl name.node
    → gathering new falls ≡ gathering_answer g name place
gathered g t new fl falls name place fallen e f h k =
    subst (λ x. gathering new falls ≡ gathering_answer x name place) e (rw (f, h, k) refl)
