-- The ends of rings, and what passed through them.
use Rattle.std.specs.Prelude.{◌≡◌, ◌≢◌, ℕ, ◌+◌, ◌<◌, ◌≤◌, List, [], ◌∷◌, ◌++◌, length, slice_get, Some, ◌⊎◌}
use Rattle.std.specs.List.{Contains}
use Rattle.std.specs.declared.alloc.Global.{Global}
use Rattle.rtrb.specs.declared.AnyItems.{AnyItems}
use Rattle.rtrb.specs.declared.producer.Producer.{Producer}
use Rattle.rtrb.specs.declared.consumer.Consumer.{Consumer}
use Rattle.rtrb.specs.Ring.{IsPair, SameConsumer, SameProducer, known_free, received, sent}
use Rattle.wire_msg.specs.declared.packet.Packet.{Packet}
use Rattle.world_base.specs.declared.cluster.Cluster.{Cluster}
use Rattle.world_base.specs.Cluster.{place_of}
use Rattle.live_links.specs.declared.letter.Letter.{Letter}

abbrev pub Out : Type 0
Out = Producer Letter Global AnyItems

abbrev pub In : Type 0
In = Consumer Letter Global AnyItems

-- the items of two lists of one length, place by place
abbrev pub AtEach : {X : Type 0} → (ℕ → X → X → Type 0) → List X → List X → Type 0
AtEach {X} R old new = (length new ≡ length old) × ((k : ℕ) (x y : X) → slice_get old k ≡ Some x → slice_get new k ≡ Some y → R k x y)

-- a letter is for the node at a place
abbrev pub IsFor : Cluster → ℕ → Letter → Type 0
IsFor c q x = place_of c x.packet.to ≡ Some q

-- letters are pushed on the ring to a place: only those that are for the node there, and each of those where there is known to be room for all
pub record Pushes (c : Cluster) (all : List Letter) (q : ℕ) (o p : Out) : Type 0 where
  pub same : SameProducer o p
  pub only : (x : Letter) → Contains (sent p) x → Contains (sent o) x ⊎ (IsFor c q x × Contains all x)
  pub before : (x : Letter) → Contains (sent o) x → Contains (sent p) x
  pub each : length all ≤ known_free o → (x : Letter) → Contains all x → IsFor c q x → Contains (sent p) x
  pub room : known_free o ≤ known_free p + length all

abbrev pub Sends : Cluster → List Out → List Letter → List Out → Type 0
Sends c old all new = AtEach (Pushes c all) old new

-- nothing passed by
abbrev pub StillIn : ℕ → In → In → Type 0
StillIn k c d = SameConsumer c d × (received d ≡ received c)

abbrev pub StillOut : ℕ → Out → Out → Type 0
StillOut k o p = SameProducer o p × (sent p ≡ sent o)

abbrev pub StillRow : ℕ → List Out → List Out → Type 0
StillRow k row new = AtEach StillOut row new

abbrev pub AreStill : List In → List In → Type 0
AreStill old new = AtEach StillIn old new

-- a letter was popped by the end at a place: it is what that end received last, and no other end received any
pub record Pops (place : ℕ) (x : Letter) (k : ℕ) (c d : In) : Type 0 where
  pub same : SameConsumer c d
  pub here : k ≡ place → received d ≡ received c ++ x ∷ []
  pub others : k ≢ place → received d ≡ received c

abbrev pub TookAt : List In → ℕ → Letter → List In → Type 0
TookAt old place x new = (place < length old) × AtEach (Pops place x) old new

-- one end popped this letter
abbrev pub TookOne : List In → Letter → List In → Type 0
TookOne old x new = (place : ℕ) × TookAt old place x new

-- one of these ends received this letter
abbrev pub Received : List In → Letter → Type 0
Received ins x = (p : ℕ) × (c : In) × (slice_get ins p ≡ Some c) × Contains (received c) x

-- nothing was pushed
abbrev pub IsUnused : List Out → Type 0
IsUnused outs = (q : ℕ) (o : Out) → slice_get outs q ≡ Some o → sent o ≡ []

-- this end was made for the ring from one place to another
abbrev pub IsRing : List (List Out) → ℕ → ℕ → Out → Type 0
IsRing rings p q o = (row : List Out) × (slice_get rings p ≡ Some row) × (slice_get row q ≡ Some o)

-- these are the ends by which the node at a place sends
pub record IsOutsOf (rings : List (List Out)) (place : ℕ) (outs : List Out) : Type 0 where
  pub count : length outs ≡ length rings
  pub named : (q : ℕ) (o : Out) → slice_get outs q ≡ Some o → (made : Out) × IsRing rings place q made × SameProducer made o

-- these are the ends by which it receives
pub record IsInsOf (rings : List (List Out)) (place : ℕ) (ins : List In) : Type 0 where
  pub count : length ins ≡ length rings
  pub named : (p : ℕ) (c : In) → slice_get ins p ≡ Some c → (made : Out) × IsRing rings p place made × IsPair made c

-- packets as letters from one place, numbered from here on
abbrev pub letters_of : ℕ → ℕ → List Packet → List Letter
letters_of from n [] = []
letters_of from n (x ∷ xs) = record { from = from; number = n; packet = x } ∷ letters_of from (n + 1) xs

-- these ends receive at a place what those send to it
pub record RowPairs (place : ℕ) (ends : List In) (outs : List (List Out)) : Type 0 where
  pub count : length ends ≡ length outs
  pub within : (p : ℕ) (row : List Out) → slice_get outs p ≡ Some row → place < length row
  pub pairs : (p : ℕ) (c : In) (row : List Out) (o : Out) → slice_get ends p ≡ Some c → slice_get outs p ≡ Some row → slice_get row place ≡ Some o → IsPair o c

abbrev pub ArePairs : List (List Out) → List (List In) → Type 0
ArePairs outs ins = (q : ℕ) (ends : List In) → slice_get ins q ≡ Some ends → RowPairs q ends outs

-- what they received was sent
abbrev pub KnowsRow : ℕ → List In → List (List Out) → Type 0
KnowsRow place ends outs =
    (p : ℕ) (c : In) (row : List Out) (o : Out) (l : Letter) → slice_get ends p ≡ Some c → slice_get outs p ≡ Some row → slice_get row place ≡ Some o
    → Contains (received c) l → Contains (sent o) l

abbrev pub KnowsAll : List (List Out) → List (List In) → Type 0
KnowsAll outs ins = (q : ℕ) (ends : List In) → slice_get ins q ≡ Some ends → KnowsRow q ends outs
