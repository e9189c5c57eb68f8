-- Texts: the book never changes, and whatever is kept or under way of a name is of the text that was booked.
-- Stands on Boots, by which a name that is booked is new.
use Rattle.std.proofs.Common.{◌≡◌, ℕ, ◌<◌, ◌≤◌, arith}
use Rattle.std.proofs.lemmas.Bool.Decides.{nat_tests}
use Rattle.log_protocol.specs.Tables.{In}
use Rattle.log_protocol.specs.Packets.{StorePacket, FragmentPacket}
use Rattle.log_protocol.specs.State.{State, new_log}
use Rattle.log_protocol.specs.OwnerSteps.{CanSeal, seals, CanRestripe, restripes}
use Rattle.log_protocol.specs.OpeningSteps.{CanOpen, opens}
use Rattle.log_protocol.specs.Step.{Step}
use Rattle.log_protocol.specs.Step.Step.{Sends, Accepts, Tells, Fills, Seals, Restripes, Opens}
use Rattle.log_protocol.proofs.Boots.{Boots}
use Rattle.log_protocol.proofs.NewNames.{new_seal, new_restripe, new_opening}

pub record Texts (w : State) : Type 0 where
  -- 0 is no name
  pub booked_name : (x : ℕ) → w.booked x ≡ 1 → 0 < x
  -- a booked segment has a member
  pub some_member : (x : ℕ) → w.booked x ≡ 1 → 0 < w.member_count x
  -- its members are servers that there are
  pub server_known : (x j : ℕ) → w.booked x ≡ 1 → j < w.member_count x → w.member_server x j < w.servers
  -- and distinct
  pub distinct : (x j k : ℕ) → w.booked x ≡ 1 → j < w.member_count x → k < w.member_count x → w.member_server x j ≡ w.member_server x k → j ≡ k
  -- a Store is of a booked name,
  pub store_booked : (p : StorePacket) → In p w.stores → w.booked p.name ≡ 1
  -- for one of its members,
  pub store_index : (p : StorePacket) → In p w.stores → p.index < w.member_count p.name
  -- to the server of that member,
  pub store_to : (p : StorePacket) → In p w.stores → p.to ≡ w.member_server p.name p.index
  -- with its generation
  pub store_generation : (p : StorePacket) → In p w.stores → p.generation ≡ w.member_generation p.name p.index
  -- and a fragment of the text that was booked
  pub store_text : (p : StorePacket) → In p w.stores → p.text ≡ w.text_of p.name
  -- a Fragment is of a booked name
  pub fragment_booked : (p : FragmentPacket) → In p w.fragments → w.booked p.name ≡ 1
  -- and of the text that was booked
  pub fragment_text : (p : FragmentPacket) → In p w.fragments → p.text ≡ w.text_of p.name
  -- a server holds fragments of booked names alone,
  pub held_booked : (v x : ℕ) → w.holds v x ≡ 1 → w.booked x ≡ 1
  -- of the text that was booked,
  pub held_text : (v x : ℕ) → w.holds v x ≡ 1 → w.kept_text v x ≡ w.text_of x
  -- each at the index of its server in the group
  pub held_member : (v x : ℕ) → w.holds v x ≡ 1 → w.member_server x (w.kept_index v x) ≡ v
  -- and that index is one of the group
  pub held_index : (v x : ℕ) → w.holds v x ≡ 1 → w.kept_index v x < w.member_count x
  -- holding is a flag
  pub held_flag : (v x : ℕ) → w.holds v x ≤ 1

seals_keeps_texts : (w : State) (x text count : ℕ) (server : ℕ → ℕ) (content : ℕ) → CanSeal w x count server → Boots w → Texts w
    → Texts (seals w x text count server content)
seals_keeps_texts w x text count server content can boots texts =
    let new : w.booked x ≡ 1 → ⊥ = new_seal w x count server can boots in
    grind (arith, nat_tests)

restripes_keeps_texts : (w : State) (x text count : ℕ) (server : ℕ → ℕ) → CanRestripe w x count server → Boots w → Texts w
    → Texts (restripes w x text count server)
restripes_keeps_texts w x text count server can boots texts =
    let new : w.booked x ≡ 1 → ⊥ = new_restripe w x count server can boots in
    grind (arith, nat_tests)

opens_keeps_texts : (w : State) (x text count : ℕ) (server : ℕ → ℕ) → CanOpen w x count server → Boots w → Texts w → Texts (opens w x text count server)
opens_keeps_texts w x text count server can boots texts =
    let new : w.booked x ≡ 1 → ⊥ = new_opening w x count server can boots in
    grind (arith, nat_tests)

pub step_keeps_texts : (w u : State) → Step w u → Boots w → Texts w → Texts u
step_keeps_texts w u (Sends x i can) boots texts = grind (arith, nat_tests)
step_keeps_texts w u (Accepts p can) boots texts = grind (arith, nat_tests)
step_keeps_texts w u (Tells v x can) boots texts = grind (arith, nat_tests)
step_keeps_texts w u (Fills v i p can) boots texts = grind (arith, nat_tests)
step_keeps_texts w u (Seals x text count server content can) boots texts = seals_keeps_texts w x text count server content can boots texts
step_keeps_texts w u (Restripes x text count server can) boots texts = restripes_keeps_texts w x text count server can boots texts
step_keeps_texts w u (Opens x text count server can) boots texts = opens_keeps_texts w x text count server can boots texts
step_keeps_texts w u step boots texts = grind (arith, nat_tests)

pub new_log_texts : (servers : ℕ) (seq_of incarnation_of attempt_of : ℕ → ℕ) → Texts (new_log servers seq_of incarnation_of attempt_of)
new_log_texts servers seq_of incarnation_of attempt_of = grind (arith, nat_tests)
