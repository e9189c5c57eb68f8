-- How stamps of (epoch, turn) and promised epochs, as nodes keep them, are seen here, where a client's stamp is a turn of the reigning epoch.
use Rattle.std.specs.Prelude.{◌≡◌, ℕ, ◌<◌, ◌≤◌, ◌⊎◌}
use Rattle.token_protocol.specs.Client.{Client}
use Rattle.token_protocol.specs.World.{World}

-- A stamp as packets carry it.
pub record Stamp : Type 0 where
  pub epoch : ℕ
  pub turn : ℕ

-- What a node keeps of this block, as far as epochs go: its promise, and the stamp of what it last acted on.
pub record Node : Type 0 where
  pub promised : ℕ
  pub stamp : Stamp

-- The stamp s is above the stamp t.
abbrev pub Exceeds : Stamp → Stamp → Type 0
Exceeds s t = (t.epoch < s.epoch) ⊎ ((t.epoch ≡ s.epoch) × (t.turn < s.turn))

-- The node is seen as this client under the reigning epoch e.
pub record Seen (n : Node) (x : Client) (e : ℕ) : Type 0 where
  pub promised : x.promised ≡ n.promised
  pub past : n.stamp.epoch ≤ e
  pub now : n.stamp.epoch ≡ e → x.stamp ≡ n.stamp.turn
  pub old : n.stamp.epoch < e → x.stamp ≡ 0

-- A Grant or Supply of the promised epoch, above the node's stamp, is one of the reigning epoch, above the client's stamp.
abbrev pub TakenSeen : Type 0
TakenSeen = (n : Node) (x : Client) (e : ℕ) (s : Stamp) → Seen n x e → e ≤ x.promised → s.epoch ≤ e → 0 < s.turn → s.epoch ≡ n.promised → Exceeds s n.stamp
    → (x.promised ≡ e) × (s.epoch ≡ e) × (x.stamp < s.turn)

-- A Recall of the promised epoch at the node's stamp is at the client's stamp.
abbrev pub EqualSeen : Type 0
EqualSeen = (n : Node) (x : Client) (e : ℕ) (s : Stamp) → Seen n x e → e ≤ x.promised → s.epoch ≤ e → s.epoch ≡ n.promised → n.stamp ≡ s → x.stamp ≡ s.turn

-- After acting on a packet of the reigning epoch, the client's stamp is that packet's turn.
abbrev pub StampedSeen : Type 0
StampedSeen = (n : Node) (x : Client) (e : ℕ) (s : Stamp) → Seen n x e → s.epoch ≡ e → Seen (record n { stamp = s }) (record x { stamp = s.turn }) e

-- When a later epoch begins to reign, every stamp is of an older one.
abbrev pub ActivationSeen : Type 0
ActivationSeen = (n : Node) (x : Client) (e f : ℕ) → Seen n x e → e < f → Seen n (record x { stamp = 0 }) f

-- A promise leaves stamps alone.
abbrev pub PromiseSeen : Type 0
PromiseSeen = (n : Node) (x : Client) (e f : ℕ) → Seen n x e → Seen (record n { promised = f }) (record x { promised = f; fetching = 0 }) e

-- A manager that completes its reports below the reigning epoch is heard by nobody: no client promises that epoch any more.
abbrev pub Unheard : World → Type 0
Unheard w = (c e : ℕ) → c < w.members → e < w.epoch → (w.client c).promised ≡ e → ⊥
