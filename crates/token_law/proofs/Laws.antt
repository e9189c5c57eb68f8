-- The laws are read off how each block of a run is seen in the abstract token protocol.
use Rattle.std.proofs.Common.{◌≡◌, ℕ, zero, suc, ◌≤◌, ◌<◌, Bool, true, false, List, [], ◌∷◌, ◌++◌, refl, sym, ap, subst, ◌∙◌, arith}
use Rattle.std.proofs.lemmas.Bool.{eqb-true}
use Rattle.xfs_base.specs.declared.block.BlockId.{BlockId}
use Rattle.xfs_base.specs.declared.token.Mode.{Mode}
use Rattle.xfs_base.specs.declared.token.Mode.TheVariants.{Nothing, Copy, Own}
use Rattle.xfs_base.specs.Blocks.{slot_of}
use Rattle.xfs_base.specs.Modes.{is_held, is_own, mode_number}
use Rattle.xfs_base.proofs.Booleans.{contrary}
use Rattle.slot_beliefs.specs.Beliefs.{share_of}
use Rattle.token_client.specs.State.{held_of, epoch_of}
use Rattle.token_manager.specs.SlotState.{SlotState}
use Rattle.version_model.specs.declared.act.Act.{Act}
use Rattle.act_tie.specs.BlockActs.{acts_of}
use Rattle.token_protocol.specs.Acts.{LegalActs}
use Rattle.token_protocol.specs.Entry as abstract
use Rattle.token_protocol.proofs.Told.{acts_legal}
use Rattle.token_protocol.proofs.Invariant.{Owned, owned, always as invariant}
use Rattle.token_protocol.proofs.Laws.{single_owner, epoch_promised, beliefs_cover, acceptable_believed, no_holder_after_fall, flights_new, join_is_join, acceptable_joins}
use Rattle.token_tie.specs.Seen.{local_of, entry_seen}
use Rattle.token_tie.proofs.Leaves.{taking}
use Rattle.token_law.specs.Laws.{Moment, IsClient, Reigns, OneOwner, ActiveEpochsPromised, HoldingsBelieved, GrantsBelieved, NobodyHoldsAfterFall, ActsAreLegal, FallsAreApart, FlightsAreNewer, GrantsAreOfTheNewest}
use Rattle.token_law.specs.Net.{Net, Happens, Runs, opening}
use Rattle.token_law.specs.Net.Happens.{Acts, Elsewhere, Reports, GetsCopy, GetsOwn, Declines, GetsRecall, GetsForward, GetsSupply, Fetches, Reads, Syncs, Seals, Files, GetsDeltas, GetsWant, GetsGave, Ticks, Crashes, Returns, SealsCopies, FilesCopies, Reopens, Activates, Says}
use Rattle.token_law.specs.Net.Runs.{Begun, On}
use Rattle.token_law.specs.Owed.{IsNeutral}
use Rattle.token_law.proofs.Acting.{neutral_acts}
use Rattle.token_law.proofs.Apart.{falls_kept}
use Rattle.token_law.proofs.Views.{setting, some_one, ClientShown, View}
use Rattle.token_law.proofs.ClientViews.{shown_up}
use Rattle.token_law.proofs.Start.{always}

owns_two : (mode : Mode) → is_own mode ≡ true → mode_number mode ≡ 2
owns_two Nothing h = contrary h
owns_two Copy h = contrary h
owns_two Own h = refl

holds_some : (mode : Mode) → is_held mode ≡ true → 0 < mode_number mode
holds_some Nothing h = contrary h
holds_some Copy h = omega arith
holds_some Own h = omega arith

holds_none : (mode : Mode) → mode_number mode ≡ 0 → is_held mode ≡ false
holds_none Nothing h = refl
holds_none Copy h = absurd (omega arith)
holds_none Own h = absurd (omega arith)

module _ (logs : Bool) (members part : ℕ) (n : Net) (b : BlockId) (m : Moment logs members part n b) where
  pub seen : (c : ℕ) → IsClient members c → View logs members part b n
  seen c fact = (always logs members part n (let w = fact.within in omega arith) m.run).good.views b m.inside

  is_owned : (v : View logs members part b n) → Owned v.world
  is_owned v = owned logs members v.world v.steps

  promised_is : (v : View logs members part b n) (c : ℕ) (up : Bool) → ClientShown up b c (n.tokens c) v.world.epoch (v.world.client c)
      → (v.world.client c).promised ≡ epoch_of (n.tokens c).epochs (slot_of b.ino.0)
  promised_is v c true shown = shown.stamps.promised
  promised_is v c false shown = shown.promised

  promised_by : (v : View logs members part b n) (c : ℕ) → IsClient members c → v.world.epoch ≤ (v.world.client c).promised
  promised_by v c fact = epoch_promised v.world (is_owned v) c (let many = v.many in let within = fact.within in omega arith)

  -- the slot that reigns is the one that is seen
  reigning : (v : View logs members part b n) (e : ℕ) (s : SlotState) → Reigns n e s → s ≡ v.slot
  reigning v e s r =
      let above = r.latest v.world.epoch v.slot v.reigns in
      let below = (v.past e s r.active).0 in
      let same : e ≡ v.world.epoch = omega arith in
      some_one s v.slot (sym r.active ∙ ap n.slots same ∙ v.reigns)

pub one_owner : OneOwner
one_owner logs members part n b m c d fact is2 up up2 own held =
    let v = seen logs members part n b m c fact in
    let mode = (shown_up logs members part b n v d is2.some is2.within up2).mode in
    let some = holds_some (held_of (n.tokens d).blocks b).mode held in
    single_owner v.world (is_owned logs members part n b m v) c d
    ((shown_up logs members part b n v c fact.some fact.within up).mode ∙ owns_two (held_of (n.tokens c).blocks b).mode own) (omega arith)

pub active_promised : ActiveEpochsPromised
active_promised logs members part n b m e s active c fact =
    let v = seen logs members part n b m c fact in
    let below = (v.past e s active).0 in
    let high = promised_by logs members part n b m v c fact in
    let same = promised_is logs members part n b m v c (n.up c) (v.clients c fact.some fact.within)
    ∙ ap (epoch_of (n.tokens c).epochs) (eqb-true (slot_of b.ino.0) part m.inside) in
    omega arith

pub holdings_believed : HoldingsBelieved
holdings_believed logs members part n b m e s r c fact up =
    let v = seen logs members part n b m c fact in
    let covered = (beliefs_cover v.world (is_owned logs members part n b m v)).held c in
    let believed = v.manages.belief c in
    let mode = (shown_up logs members part b n v c fact.some fact.within up).mode in
    subst (λ (x : SlotState). mode_number (held_of (n.tokens c).blocks b).mode ≤ share_of x.beliefs b c) (sym (reigning logs members part n b m v e s r))
    (omega arith)

pub grants_believed : GrantsBelieved
grants_believed logs members part n b m e s r c fact up stamp inc req mode entry sent accepted =
    let v = seen logs members part n b m c fact in
    let shown = shown_up logs members part b n v c fact.some fact.within up in
    let may = taking logs (setting b c (n.tokens c).inc) 0 v.world (local_of (n.tokens c) b) stamp inc req mode (entry_seen entry) shown
    (promised_by logs members part n b m v c fact) (v.sent _ sent refl) accepted in
    let covered = acceptable_believed v.world (is_owned logs members part n b m v) _ may.1.sent may.1.live in
    let believed = v.manages.belief c in
    subst (λ (x : SlotState). mode_number mode ≤ share_of x.beliefs b c) (sym (reigning logs members part n b m v e s r)) (omega arith)

pub nobody_holds : NobodyHoldsAfterFall
nobody_holds logs members part n b m c d fact is2 down dirty up =
    let v = seen logs members part n b m c fact in
    let mode = (shown_up logs members part b n v d is2.some is2.within up).mode in
    let none = no_holder_after_fall v.world (is_owned logs members part n b m v) c d (v.fell c fact.some fact.within down dirty) in
    holds_none (held_of (n.tokens d).blocks b).mode (omega arith)

-- ---- acts, where logs keep their word

-- with no client nothing is acted but what changes no history
unacted : (b : BlockId) (acts : List Act) (a : Act) → IsNeutral a → acts_of b acts ≡ [] → acts_of b (acts ++ a ∷ []) ≡ []
unacted b acts a neutral none = neutral_acts b acts a neutral ∙ none

no_clients : (part : ℕ) (b : BlockId) (n m : Net) → Happens true 0 part n m → acts_of b n.acts ≡ [] → acts_of b m.acts ≡ []
no_clients part b n m (Acts c end x serves own) i = absurd (let less = serves.within in omega arith)
no_clients part b n m (Elsewhere c end x serves other) i = i
no_clients part b n m (Reports c end serves) i = i
no_clients part b n m (GetsCopy c end block stamp inc req entry serves fact) i = i
no_clients part b n m (GetsOwn c end block stamp inc req entry value serves fact accepts room) i = absurd (let less = serves.within in omega arith)
no_clients part b n m (Declines c end block stamp inc req entry serves fact accepts) i = i
no_clients part b n m (GetsRecall c end block stamp keep serves fact) i = i
no_clients part b n m (GetsForward c other block stamp inc req ver value pos less fact up serves held) i = i
no_clients part b n m (GetsSupply c end block stamp inc req ver value serves fact) i = i
no_clients part b n m (Fetches c end block value serves there) i = i
no_clients part b n m (Reads c block value pos less up held fact) i = absurd (omega arith)
no_clients part b n m (Syncs c pos less up clean) i = absurd (omega arith)
no_clients part b n m (Seals c rows pos less up free newest) i = i
no_clients part b n m (Files c pos less up flies) i = i
no_clients part b n m (GetsDeltas e s log first upto rows at known some covers) i = i
no_clients part b n m (GetsWant e s c inc req again block mode end at fact) i = i
no_clients part b n m (GetsGave e s c block stamp end at fact) i = i
no_clients part b n m (Ticks e s at) i = i
no_clients part b n m (Crashes c flight falls pos less up once so) i = absurd (omega arith)
no_clients part b n m (Returns c inc epochs chain count pos less up later rises flies) i = absurd (omega arith)
no_clients part b n m (SealsCopies l rows out free originals) i = i
no_clients part b n m (FilesCopies l out flies) i = i
no_clients part b n m (Reopens l adopted count out flies) i = i
no_clients part b n m (Activates e index applied rows ends order none all each sent gathered) i = i
no_clients part b n m (Says a neutral) i = unacted b n.acts a neutral i

nothing_acted : (part : ℕ) (b : BlockId) (n m : Net) → Runs true 0 part n m → acts_of b n.acts ≡ [] → acts_of b m.acts ≡ []
nothing_acted part b n m Begun i = i
nothing_acted part b n m (On {m = k} rs h) i = no_clients part b k m h (nothing_acted part b n k rs i)

pub acts_are_legal : ActsAreLegal
acts_are_legal zero part n b m = subst LegalActs (sym (nothing_acted part b opening n m.run refl)) tt
acts_are_legal (suc members) part n b m =
    let v = (always true (suc members) part n (omega arith) m.run).good.views b m.inside in
    subst LegalActs v.acts (acts_legal (suc members) v.world v.steps)

pub falls_are_apart : FallsAreApart
falls_are_apart logs members part n run = (falls_kept logs members part n run).apart

-- ---- flights, where logs keep their word

pub flights_are_newer : FlightsAreNewer
flights_are_newer members part n b m c fact some l q filed =
    let v = seen true members part n b m c fact in
    let w = v.world in
    let whole = invariant members w v.steps in
    let row = ap (λ e. (w.rows c (suc e)).version) (v.kept.ends c) ∙ ap (λ (r : abstract.Row). r.version) (v.kept.says c (suc (n.books.end c))) in
    let other = ap (λ (r : abstract.Row). r.version) (v.kept.says l q) in
    let end = v.kept.ends l in
    let above = (flights_new w whole c (let many = v.many in let within = fact.within in omega arith)).above (omega arith) in
    let limit = (join_is_join w whole).upper l q (omega arith) in
    omega arith

pub grants_are_of_the_newest : GrantsAreOfTheNewest
grants_are_of_the_newest members part n b m c fact up stamp inc req mode entry sent accepted l q filed =
    let v = seen true members part n b m c fact in
    let w = v.world in
    let whole = invariant members w v.steps in
    let shown = shown_up true members part b n v c fact.some fact.within up in
    let may = taking true (setting b c (n.tokens c).inc) 0 w (local_of (n.tokens c) b) stamp inc req mode (entry_seen entry) shown
    (promised_by true members part n b m v c fact) (v.sent _ sent refl) accepted in
    let told = acceptable_joins w whole _ may.1.sent may.1.live in
    let row = ap (λ (r : abstract.Row). r.version) (v.kept.says l q) in
    let end = v.kept.ends l in
    let limit = (join_is_join w whole).upper l q (omega arith) in
    omega arith
