-- Each quiet line leads from one drained state to the next, whoever holds the block that it names: so the run of each quiet script is answered.
use Rattle.std.proofs.Common.{◌≡◌, ◌≤◌, ◌<◌, ◌+◌, ◌*◌, ◌==◌, ◌||◌, ◌⊎◌, inl, inr, ℕ, suc, Bool, true, false, All, List, [], ◌∷◌, length, Option, Some, refl, ap, subst, ◌∙◌, arith}
use Rattle.std.specs.List.{AllByRecursion}
use Rattle.core_world.specs.declared.any_node.AnyNode.{AnyNode}
use Rattle.log_flight.specs.declared.dirty.Change.{Change}
use Rattle.node_base.specs.Setups.{IsSetup}
use Rattle.quiet_flow.specs.Flow.{Stage}
use Rattle.quiet_run.proofs.GetsFromDirty.{gets_from_dirty}
use Rattle.quiet_gets.proofs.FromCopies.{from_copies}
use Rattle.quiet_run.specs.Laws.{GetsFromDirtyAreAnswered, OwnedCopiesArePassedOn}
use Rattle.quiet_gets.specs.Laws.{CopiesArePassedOn, owners, told_nodes, LonelyGetsAreAnswered}
use Rattle.quiet_gets.specs.Passing.{AreInOrder}
use Rattle.quiet_gets.proofs.Lonely.{lonely_gets}
use Rattle.quiet_gives.specs.Laws.{CleanBlocksArePut, PutsFromDirtyAreAnswered}
use Rattle.quiet_gives.proofs.FromClean.{puts_from_clean}
use Rattle.quiet_gives.proofs.Given.{each_other, few_others}
use Rattle.quiet_gives.proofs.Givers.{is_among, of_member}
use Rattle.quiet_run.proofs.FromOwner.{gets_from_owner}
use Rattle.quiet_law.proofs.AsIf.{ends_later_up, ends_up}
use Rattle.quiet_law.proofs.Ending.{gets_here, syncs_nothing}
use Rattle.quiet_law.proofs.Syncing.{syncs_what_waits}
use Rattle.quiet_law.proofs.Writes.{ends_more, puts_owned}
use Rattle.quiet_law.specs.Drained.{Drained, IsCalm, most_steps}
use Rattle.quiet_law.specs.Lines.{Ends, EndsAfterRound, IsNext, Stands, fetching, holders, sealing, tail}
use Rattle.quiet_nodes.proofs.Rooms.{slot_within}
use Rattle.quiet_nodes.proofs.Tests.{same_test}
use Rattle.quiet_nodes.specs.Scene.{Scene}
use Rattle.quiet_gives.proofs.PutsFromDirty.{puts_from_dirty}
use Rattle.quiet_run.proofs.Few.{ends_later_more, fetching_few, sealing_few, tail_few}
use Rattle.quiet_run.proofs.Leading.{scripts_are_answered}
use Rattle.quiet_run.specs.Runs.{EachLineLeadsOn, QuietScriptsAreAnswered}
use Rattle.quiet_script.proofs.QuietWorks.{each_quiet}
use Rattle.quiet_script.specs.Quiet.{is_in_range}
use Rattle.headline.specs.Bounds.{is_quiet, most_deliveries}
use Rattle.slot_beliefs.specs.Beliefs.{others}
use Rattle.slot_beliefs.specs.declared.job.Holder.{Holder}
use Rattle.token_client.specs.Held.{is_dirty}
use Rattle.token_client.specs.State.{held_of}
use Rattle.version_model.specs.declared.work.Work.{Work}
use Rattle.version_model.specs.declared.work.Work.TheVariants as works
use Rattle.world_base.specs.Items.{actor_of}
use Rattle.xfs_base.specs.Blocks.{slot_of}
use Rattle.xfs_base.specs.declared.block.BlockId.{BlockId}
use Rattle.xfs_base.specs.declared.node.NodeId.{NodeId}
use Rattle.xfs_base.specs.declared.node.NodeId.TheVariants.{Client}
use Rattle.xfs_base.specs.declared.setup.Setup.{Setup}
use Rattle.xfs_base.specs.Modes.{is_nothing, is_own}

-- ---- one of several, or none

record Found (f : ℕ → Bool) (ds : List ℕ) : Type 0 where
  number : ℕ
  among : is_among number ds ≡ true
  is : f number ≡ true

search : (f : ℕ → Bool) (ds : List ℕ) → AllByRecursion (λ e. f e ≡ false) ds ⊎ Found f ds
search f [] = inl tt
search f (d ∷ ds) = by_first (f d) refl (search f ds)
  where
    or_true : (t : Bool) → (t || true) ≡ true
    or_true true = refl
    or_true false = refl

    by_first : (t : Bool) → f d ≡ t → AllByRecursion (λ e. f e ≡ false) ds ⊎ Found f ds → AllByRecursion (λ e. f e ≡ false) (d ∷ ds) ⊎ Found f (d ∷ ds)
    by_first true is rest = inr (record { number = d; among = ap (λ t. t || is_among d ds) (same_test d); is = is })
    by_first false is (inl all) = inl (is, all)
    by_first false is (inr found) = inr (record {
      number = found.number;
      among = ap (λ t. (found.number == d) || t) found.among ∙ or_true (found.number == d);
      is = found.is;
    })

-- where each kind of line does, of which others hold the block
pub record Kinds : Type 0 where
  pub puts_clean : CleanBlocksArePut
  pub puts_dirty : PutsFromDirtyAreAnswered
  pub gets_alone : LonelyGetsAreAnswered
  pub gets_copies : CopiesArePassedOn
  pub gets_clean : OwnedCopiesArePassedOn
  pub gets_dirty : GetsFromDirtyAreAnswered

module _ (kinds : Kinds) (setup : Setup) (its : NodeId → List Work) (ok : IsSetup setup) (k : ℕ) (s : Scene) (t : Stage AnyNode) (c : ℕ) (few : suc k < most_steps)
    (d : Drained setup its k s) (stands : Stands setup its s t) (sorted : AreInOrder setup its s) where
  abbrev item : ℕ
  item = (s.client c).begun + 1

  abbrev Leads : Type 0
  Leads = Ends setup its (suc k) most_deliveries s t c item ⊎ EndsAfterRound setup its (suc k) 63 65 s t c item

  sooner : k < 40000
  sooner = omega (arith, few)

  one_step : (n : ℕ) → n ≤ most_deliveries → Ends setup its k n s t c item → Leads
  one_step n less e = inl (ends_up setup its k most_deliveries s t c item (ends_more setup its k n most_deliveries s t c item less e))

  two_steps : (n : ℕ) → n ≤ most_deliveries → Ends setup its (suc k) n s t c item → Leads
  two_steps n less e = inl (ends_more setup its (suc k) n most_deliveries s t c item less e)

  either : (n first second : ℕ) → n ≤ most_deliveries → first ≤ 63 → second ≤ 65
      → Ends setup its (suc k) n s t c item ⊎ EndsAfterRound setup its (suc k) first second s t c item → Leads
  either n first second less l h (inl e) = two_steps n less e
  either n first second less l h (inr e) = inr (ends_later_more setup its (suc k) first second 63 65 s t c item l h e)

  told_few : told_nodes setup ≤ 40
  told_few = (let clients = ok.clients.1 in let managers = ok.managers.1 in let servers = ok.servers.1 in omega arith)

  -- ---- the others that are believed to hold a block

  module _ (b : BlockId) (owning : Bool) where
    abbrev theirs : List ℕ
    theirs = others (s.slot (slot_of b.ino.0)).beliefs b c owning

    calm : IsCalm setup k (s.slot (slot_of b.ino.0))
    calm = d.slots (slot_of b.ino.0) (slot_within b.ino.0)

    weaker : (bs : List (Holder × Bool)) → All (λ (e : Holder × Bool). (1 ≤ e.0.client) × (e.0.client ≤ setup.clients)) bs
        → All (λ (e : Holder × Bool). e.0.client ≤ 8) bs
    weaker bs all = λ n at less. (let upper = (all n at less).1 in let limit = ok.clients.1 in omega arith)

    theirs_few : length theirs ≤ 9
    theirs_few = few_others b c owning 8 (s.slot (slot_of b.ino.0)).beliefs calm.ordered (weaker (s.slot (slot_of b.ino.0)).beliefs calm.believed)

    abbrev IsOther : ℕ → Type 0
    IsOther e = (e ≡ c → ⊥) × ((1 ≤ e) × (e ≤ setup.clients))

    who : (o : ℕ) → is_among o theirs ≡ true → IsOther o
    who o among = of_member IsOther o theirs (each_other b c owning (λ e. (1 ≤ e) × (e ≤ setup.clients)) (s.slot (slot_of b.ino.0)).beliefs calm.believed) among

    abbrev dirty : ℕ → Bool
    dirty e = is_dirty (held_of (s.client e).blocks b)

  -- ---- the lines

  put_leads : (b : BlockId) (value : Option (List ℕ)) → IsNext setup its s c (works.Bput c b value) → is_in_range setup (works.Bput c b value) ≡ true → Leads
  put_leads b value next range =
      elim (is_own (held_of (s.client c).blocks b).mode) as (λ o. is_own (held_of (s.client c).blocks b).mode ≡ o → Leads) [
        | true ↦ λ own. one_step (tail setup its s c) (let low = tail_few setup its ok s c in omega arith) (puts_owned setup its k s t c d stands ok sooner b value next range own)
        | false ↦ λ asks. by_holders asks (search (dirty b false) (theirs b false))
      ] refl
    where
      by_holders : is_own (held_of (s.client c).blocks b).mode ≡ false
          → AllByRecursion (λ e. dirty b false e ≡ false) (theirs b false) ⊎ Found (dirty b false) (theirs b false) → Leads
      by_holders asks (inl clean) =
          two_steps (2 + 2 * length (holders setup its s c b) + tail setup its s c) (let low = tail_few setup its ok s c in let most = theirs_few b false in omega arith)
          (kinds.puts_clean setup its ok k s t c b value few d stands next range asks clean)
      by_holders asks (inr found) =
          (let it = who b false found.number found.among in
          two_steps (2 * sealing setup its s found.number + 22 + tail setup its s c)
          (let low = tail_few setup its ok s c in let most = sealing_few setup its ok s found.number in omega arith)
          (kinds.puts_dirty setup its ok k s t c found.number b value few d stands next range it.1.0 it.1.1 it.0 found.is))

  get_leads : (b : BlockId) → IsNext setup its s c (works.Bget c b) → Leads
  get_leads b next =
      elim (is_nothing (held_of (s.client c).blocks b).mode) as (λ n. is_nothing (held_of (s.client c).blocks b).mode ≡ n → Leads) [
        | true ↦ λ nothing. by_holders nothing (holders setup its s c b) refl
        | false ↦ λ held. one_step 0 (omega arith) (gets_here setup its k s t c d stands next.client.0 next.client.1 b sooner next held)
      ] refl
    where
      later_low : (2 + told_nodes setup + fetching setup its s b) ≤ 65
      later_low = (let told = told_few in let fetched = fetching_few setup its ok s b in omega arith)

      up_both : Ends setup its k 3 s t c item ⊎ EndsAfterRound setup its k 2 (2 + told_nodes setup + fetching setup its s b) s t c item
          → Ends setup its (suc k) 3 s t c item ⊎ EndsAfterRound setup its (suc k) 2 (2 + told_nodes setup + fetching setup its s b) s t c item
      up_both (inl e) = inl (ends_up setup its k 3 s t c item e)
      up_both (inr e) = inr (ends_later_up setup its k 2 (2 + told_nodes setup + fetching setup its s b) s t c item e)

      by_owner : is_nothing (held_of (s.client c).blocks b).mode ≡ true → (o : ℕ) (os : List ℕ) → owners setup its s c b ≡ o ∷ os
          → AllByRecursion (λ e. dirty b true e ≡ false) (theirs b true) ⊎ Found (dirty b true) (theirs b true) → Leads
      by_owner nothing o os are (inl clean) =
          either (3 + 2 * length (owners setup its s c b)) (2 + 2 * length (owners setup its s c b)) (2 + told_nodes setup + fetching setup its s b)
          (let most = theirs_few b true in omega arith) (let most = theirs_few b true in omega arith) later_low
          (kinds.gets_clean setup its ok k s t c b o os few d stands sorted next nothing are clean)
      by_owner nothing o os are (inr found) =
          (let it = who b true found.number found.among in
          either (2 * sealing setup its s found.number + 23) (2 * sealing setup its s found.number + 22) (2 + told_nodes setup + 16)
          (let most = sealing_few setup its ok s found.number in omega arith) (let most = sealing_few setup its ok s found.number in omega arith) (let told = told_few in omega arith)
          (kinds.gets_dirty setup its ok k s t c found.number b few d stands sorted next it.1.0 it.1.1 it.0 found.is))

      by_owners : is_nothing (held_of (s.client c).blocks b).mode ≡ true → (e : ℕ) (es : List ℕ) → holders setup its s c b ≡ e ∷ es → (os : List ℕ)
          → owners setup its s c b ≡ os → Leads
      by_owners nothing e es held [] unowned =
          either 3 2 (2 + told_nodes setup + fetching setup its s b) (omega arith) (omega arith) later_low
          (up_both (kinds.gets_copies setup its ok k s t c b e es sooner d stands sorted next nothing held unowned))
      by_owners nothing e es held (o ∷ os) are = by_owner nothing o os are (search (dirty b true) (theirs b true))

      by_holders : is_nothing (held_of (s.client c).blocks b).mode ≡ true → (es : List ℕ) → holders setup its s c b ≡ es → Leads
      by_holders nothing [] nobody =
          one_step (2 + fetching setup its s b) (let low = fetching_few setup its ok s b in omega arith) (kinds.gets_alone setup its ok k s t c b sooner d stands next nothing nobody)
      by_holders nothing (e ∷ es) held = by_owners nothing e es held (owners setup its s c b) refl

  sync_leads : IsNext setup its s c (works.Sync c) → Leads
  sync_leads next = by_dirty (s.client c).dirty refl
    where
      by_dirty : (xs : List (BlockId × Change)) → (s.client c).dirty ≡ xs → Leads
      by_dirty [] is = one_step 0 (omega arith) (syncs_nothing setup its k s t c d stands next.client.0 next.client.1 sooner next is)
      by_dirty (x ∷ xs) is =
          one_step (2 * sealing setup its s c + 16) (let most = sealing_few setup its ok s c in omega arith)
          (syncs_what_waits setup its k s t c d stands ok sooner next (some xs (ap length is)))
        where
          some : (ys : List (BlockId × Change)) → length (s.client c).dirty ≡ suc (length ys) → 1 ≤ length (s.client c).dirty
          some ys long = omega (arith, long)

  line_leads : (w : Work) → is_quiet w ≡ true → IsNext setup its s c w → is_in_range setup w ≡ true → actor_of w ≡ Some (Client c) → Leads
  line_leads = each_quiet (λ w. IsNext setup its s c w → is_in_range setup w ≡ true → actor_of w ≡ Some (Client c) → Leads) puts gets syncs
    where
      puts : (n : ℕ) (b : BlockId) (value : Option (List ℕ)) → IsNext setup its s c (works.Bput n b value) → is_in_range setup (works.Bput n b value) ≡ true
          → actor_of (works.Bput n b value) ≡ Some (Client c) → Leads
      puts n b value next range actor =
          let same : n ≡ c = cc in
          put_leads b value (subst (λ m. IsNext setup its s c (works.Bput m b value)) same next) (subst (λ m. is_in_range setup (works.Bput m b value) ≡ true) same range)

      gets : (n : ℕ) (b : BlockId) → IsNext setup its s c (works.Bget n b) → is_in_range setup (works.Bget n b) ≡ true
          → actor_of (works.Bget n b) ≡ Some (Client c) → Leads
      gets n b next range actor = let same : n ≡ c = cc in get_leads b (subst (λ m. IsNext setup its s c (works.Bget m b)) same next)

      syncs : (n : ℕ) → IsNext setup its s c (works.Sync n) → is_in_range setup (works.Sync n) ≡ true → actor_of (works.Sync n) ≡ Some (Client c) → Leads
      syncs n next range actor = let same : n ≡ c = cc in sync_leads (subst (λ m. IsNext setup its s c (works.Sync m)) same next)

pub each_line_leads : Kinds → EachLineLeadsOn
each_line_leads kinds setup its ok k s t c w few d stands next sorted one range actor = line_leads kinds setup its ok k s t c few d stands sorted w one next range actor

-- ---- all kinds do

all_kinds : Kinds
all_kinds = record {
  puts_clean = λ setup its ok k s t c b value few d stands next range asks clean. puts_from_clean setup its ok k s t c b value few d stands next range asks clean;
  puts_dirty = λ setup its ok k s t c o b value few d stands next range least most differ dirty.
      puts_from_dirty setup its k s t c o d stands ok few b value next range (least, most) differ dirty;
  gets_alone = lonely_gets;
  gets_copies = from_copies;
  gets_clean = λ setup its ok k s t c b o os few d stands sorted next asks are clean.
      gets_from_owner setup its ok k s t c b o os few d stands sorted next asks are clean;
  gets_dirty = λ setup its ok k s t c o b few d stands sorted next least most differ dirty.
      gets_from_dirty setup its k s t c o d stands ok few b next (least, most) differ dirty sorted;
}

pub lines_lead : EachLineLeadsOn
lines_lead = each_line_leads all_kinds

pub all_quiet_scripts : QuietScriptsAreAnswered
all_quiet_scripts = scripts_are_answered lines_lead
