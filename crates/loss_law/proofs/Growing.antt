-- What each moment of a run knows of packets and of an opening, and what an event adds to it.
use Rattle.std.proofs.Common.{◌≡◌, ℕ, suc, ◌<◌, ◌≤◌, ◌⊎◌, List, [], ◌∷◌, ◌++◌, Option, Some, sym, subst, inl, inr, arith}
use Rattle.xfs_base.specs.declared.segment.SegName.{SegName}
use Rattle.group_map.specs.declared.group.Group.{Group}
use Rattle.group_map.specs.GroupMapState.{GroupMapState}
use Rattle.log_scan.specs.declared.opening.Opening.{Opening as OpeningState}
use Rattle.log_scan.specs.Pick.{known_group}
use Rattle.log_scan.specs.ScanState.{ScanState}
use Rattle.log_scan.specs.Transition.{least_horizon}
use Rattle.log_protocol.specs.Tables.{In}
use Rattle.log_tie.specs.Setting.{Setting, stripe_of_group}
use Rattle.log_law.specs.Net.{Packet, Owner, Net}
use Rattle.log_law.specs.Net.Packet.{StoreSent, StoredSent, FragmentSent, FenceSent, FencedSent, ListedSent, DeleteSent, MapSent, HelloSent, WelcomeSent}
use Rattle.log_law.specs.Net.Owner.{Down, Opening, Writing, Serving}
use Rattle.loss_law.proofs.Shelves.{ShelfOn}

-- the number of a question that an opening drew
abbrev pub AskedBy : ℕ → Owner → Type 0
AskedBy ask Down = Unit {0}
AskedBy ask (Opening s) = ask ≤ s.opening.ask
AskedBy ask (Writing chain s) = Unit {0}
AskedBy ask (Serving s) = Unit {0}

-- the groups that are known, where there are any, are those of the setting
abbrev pub AreNamed : Setting → Option GroupMapState → Type 0
AreNamed g groups = (id : ℕ) (group : Group) → known_group groups id ≡ Some group → g.stripe id ≡ stripe_of_group group

-- what a packet that was sent says: what is deleted was dropped, a map is of the groups of the setting, a question was drawn, and only a question is answered
abbrev pub Says : Setting → Net → Packet → Type 0
Says g n (StoreSent v f generation) = Unit {0}
Says g n (StoredSent name index generation) = Unit {0}
Says g n (FragmentSent f) = Unit {0}
Says g n (FenceSent v inc) = Unit {0}
Says g n (FencedSent v inc generation held) = Unit {0}
Says g n (ListedSent metas) = Unit {0}
Says g n (DeleteSent name) = In name n.dropped
Says g n (MapSent m) = AreNamed g (Some m)
Says g n (HelloSent inc ask) = (inc ≤ n.inc) × (inc ≡ n.inc → AskedBy ask n.owner)
Says g n (WelcomeSent inc ask news m) = In (HelloSent inc ask) n.sent

-- what one that is sent in an event says; a question is answered with the least horizon of the moment
abbrev pub SaysNew : Setting → Net → Net → Packet → Type 0
SaysNew g n o (StoreSent v f generation) = Unit {0}
SaysNew g n o (StoredSent name index generation) = Unit {0}
SaysNew g n o (FragmentSent f) = Unit {0}
SaysNew g n o (FenceSent v inc) = Unit {0}
SaysNew g n o (FencedSent v inc generation held) = Unit {0}
SaysNew g n o (ListedSent metas) = Unit {0}
SaysNew g n o (DeleteSent name) = In name o.dropped
SaysNew g n o (MapSent m) = AreNamed g (Some m)
SaysNew g n o (HelloSent inc ask) = (inc ≤ o.inc) × (inc ≡ o.inc → AskedBy ask o.owner)
SaysNew g n o (WelcomeSent inc ask news m) = In (HelloSent inc ask) n.sent × (least_horizon g.log.0 news ≡ n.low)

abbrev pub AllSayNew : Setting → Net → Net → List Packet → Type 0
AllSayNew g n o [] = Unit {0}
AllSayNew g n o (p ∷ ps) = SaysNew g n o p × AllSayNew g n o ps

-- an opening is of the log, with the groups of the setting
pub record Fits (g : Setting) (o : OpeningState) : Type 0 where
  pub log : o.log ≡ g.log
  pub groups : AreNamed g o.groups

pub record Base (g : Setting) (n : Net) : Type 0 where
  pub packets : (p : Packet) → In p n.sent → Says g n p
  pub below : (name : SegName) → In name n.dropped → name.seq < n.low
  pub opening : (s : ScanState) → n.owner ≡ Opening s → Fits g s.opening

-- the boot goes on, and its questions stay drawn; or the next one begins
abbrev pub BootOn : Net → Net → Type 0
BootOn n o = ((o.inc ≡ n.inc) × ((ask : ℕ) → AskedBy ask n.owner → AskedBy ask o.owner)) ⊎ (o.inc ≡ suc n.inc)

-- what an event adds
pub record Grows (g : Setting) (n o : Net) : Type 0 where
  pub new : List Packet
  pub sends : o.sent ≡ new ++ n.sent
  pub fresh : AllSayNew g n o new
  pub shelves : (v : ℕ) → ShelfOn g n (n.shelves v) (o.shelves v)
  pub low : n.low ≤ o.low
  pub stays : (name : SegName) → In name n.dropped → In name o.dropped
  pub drops : (name : SegName) → In name o.dropped → In name n.dropped ⊎ (name.seq < n.low)
  pub boot : BootOn n o

-- what was sent is new or old
pub told : (g : Setting) (n o : Net) (new : List Packet) → AllSayNew g n o new → (p : Packet) → In p (new ++ n.sent) → SaysNew g n o p ⊎ In p n.sent
told g n o [] all p fact = inr fact
told g n o (q ∷ qs) all p (inl e) = inl (subst (SaysNew g n o) (sym e) all.0)
told g n o (q ∷ qs) all p (inr fact) = told g n o qs all.1 p fact

old_stays : (new old : List Packet) (p : Packet) → In p old → In p (new ++ old)
old_stays [] old p fact = fact
old_stays (q ∷ qs) old p fact = inr (old_stays qs old p fact)

module _ (g : Setting) (n o : Net) (grows : Grows g n o) where
  pub sent_stays : (p : Packet) → In p n.sent → In p o.sent
  sent_stays p fact = subst (In p) (sym grows.sends) (old_stays grows.new n.sent p fact)

  pub sent_then : (p : Packet) → In p o.sent → SaysNew g n o p ⊎ In p n.sent
  sent_then p fact = told g n o grows.new grows.fresh p (subst (In p) grows.sends fact)

  hello_on : (inc ask : ℕ) → BootOn n o → (inc ≤ n.inc) × (inc ≡ n.inc → AskedBy ask n.owner) → (inc ≤ o.inc) × (inc ≡ o.inc → AskedBy ask o.owner)
  hello_on inc ask (inl goes) says = (let a = goes.0 in let b = says.0 in omega arith, λ e. goes.1 ask (says.1 (let a = goes.0 in omega arith)))
  hello_on inc ask (inr next) says = (let a = next in let b = says.0 in omega arith, λ e. absurd (let a = next in let b = says.0 in omega arith))

  says_on : (p : Packet) → Says g n p → Says g o p
  says_on (StoreSent v f generation) says = tt
  says_on (StoredSent name index generation) says = tt
  says_on (FragmentSent f) says = tt
  says_on (FenceSent v inc) says = tt
  says_on (FencedSent v inc generation held) says = tt
  says_on (ListedSent metas) says = tt
  says_on (DeleteSent name) says = grows.stays name says
  says_on (MapSent m) says = says
  says_on (HelloSent inc ask) says = hello_on inc ask grows.boot says
  says_on (WelcomeSent inc ask news m) says = sent_stays (HelloSent inc ask) says

  now_says : (p : Packet) → SaysNew g n o p → Says g o p
  now_says (StoreSent v f generation) says = tt
  now_says (StoredSent name index generation) says = tt
  now_says (FragmentSent f) says = tt
  now_says (FenceSent v inc) says = tt
  now_says (FencedSent v inc generation held) says = tt
  now_says (ListedSent metas) says = tt
  now_says (DeleteSent name) says = says
  now_says (MapSent m) says = says
  now_says (HelloSent inc ask) says = says
  now_says (WelcomeSent inc ask news m) says = sent_stays (HelloSent inc ask) says.0

  pub base_on : Base g n → ((s : ScanState) → o.owner ≡ Opening s → Fits g s.opening) → Base g o
  base_on base fits = record {
    packets = λ p fact. by p (sent_then p fact);
    below = λ name fact. under name (grows.drops name fact);
    opening = fits;
  }
    where
      by : (p : Packet) → SaysNew g n o p ⊎ In p n.sent → Says g o p
      by p (inl now) = now_says p now
      by p (inr old) = says_on p (base.packets p old)

      under : (name : SegName) → In name n.dropped ⊎ (name.seq < n.low) → name.seq < o.low
      under name (inl old) = let a = base.below name old in let b = grows.low in omega arith
      under name (inr now) = let b = grows.low in omega arith
