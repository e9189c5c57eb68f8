-- A later manager starts: the world is seen under its epoch.
use Rattle.std.specs.List.Sorted.{IsStrictlySortedBy}
use Rattle.std.proofs.Common.{◌≡◌, ℕ, zero, suc, ◌+◌, ◌≤◌, ◌<◌, Bool, true, false, cond, nat_lt, List, [], ◌∷◌, ◌++◌, ◌⊎◌, inl, inr, Some, None, refl, sym, ap, subst, ◌∙◌, arith}
use Rattle.std.proofs.lemmas.Bool.Decides.{nat_tests}
use Rattle.xfs_base.specs.declared.block.BlockId.{BlockId}
use Rattle.xfs_base.specs.declared.entry.Entry.{Entry}
use Rattle.xfs_base.specs.declared.token.Mode.{Mode}
use Rattle.xfs_base.specs.declared.token.Mode.TheVariants.{Nothing, Copy, Own}
use Rattle.act_tie.specs.BlockActs.{acts_of}
use Rattle.slot_beliefs.specs.Beliefs.{share_of, all_believed}
use Rattle.slot_beliefs.specs.Recalls.{applied_of}
use Rattle.slot_beliefs.specs.Index.{block_index_new, merge_all}
use Rattle.token_client.specs.State.{held_of}
use Rattle.token_manager.specs.SlotState.{SlotState}
use Rattle.token_manager.specs.Transition as slot
use Rattle.token_manager.proofs.Guarded.{Sound}
use Rattle.token_protocol.specs.Acts as block
use Rattle.token_protocol.specs.Basics.{put, In}
use Rattle.token_protocol.specs.Client.{Client}
use Rattle.token_protocol.specs.Packets as packets
use Rattle.token_protocol.specs.Laws.{CleanerEmpty}
use Rattle.token_protocol.specs.Premises.{Premise, SettledEnd, IndexGathered}
use Rattle.token_protocol.specs.Step.{Steps}
use Rattle.token_protocol.specs.Step.Steps.{More}
use Rattle.token_protocol.specs.Told.{told}
use Rattle.token_protocol.specs.World.{World, start}
use Rattle.token_protocol.proofs.Invariant.{owned}
use Rattle.token_tie.specs.Seen.{local_of, entry_seen}
use Rattle.xfs_base.specs.Modes.{mode_number}
use Rattle.token_law.specs.Net.{Packet, Net}
use Rattle.token_law.specs.Net.Packet.{WantSent, GrantSent, RecallSent, GaveSent, ForwardSent, SupplySent, ReportSent}
use Rattle.token_protocol.specs.Entry as abstract_entry
use Rattle.token_tie.specs.Epochs.{reported}
use Rattle.token_client.specs.declared.held.Held.{Held}
use Rattle.token_client.specs.State.{held_in, is_in_slot}
use Rattle.delta_index.specs.Index.{entry_of}
use Rattle.token_protocol.specs.Takeover as takeover
use Rattle.token_protocol.specs.Step.Step.{Reports as ReportsStep, Activates as ActivatesStep, Promises as PromisesStep}
use Rattle.token_protocol.proofs.Laws.{beliefs_cover}
use Rattle.token_protocol.proofs.Refining.{put_each}
use Rattle.token_tie.specs.Epochs.{all_reported}
use Rattle.token_tie.proofs.Frames.{put_here, put_there}
use Rattle.token_tie.proofs.TakingOver.{one_numbers, activation_shows, activation_manages, reports_believed, reports_most}
use Rattle.token_client.proofs.Tables.{InOrder}
use Rattle.std.specs.Prelude.{All, Contains}
use Rattle.std.proofs.lemmas.Bool.{ltb-true}
use Rattle.token_law.specs.Owed.{Gathered}
use Rattle.token_law.proofs.Premises.{owed, owed_both}
use Rattle.token_law.proofs.Logged.{Kept}
use Rattle.token_law.proofs.Indexes.{nothing_of_nobody, gathered_of}
use Rattle.token_law.proofs.Views.{setting, ClientShown, some_one, Supplies, Carried, View, Lasts, told_no_more, carried_on}

pub carried_rise : (logs : Bool) (part : ℕ) (b : BlockId) (w : World) (epoch : ℕ) (report : ℕ → packets.Report) (applied : ℕ → ℕ) (e : abstract_entry.Entry)
    (p : Packet) → w.epoch < epoch → Carried logs part b w p → Carried logs part b (takeover.activates w epoch report applied e) p
carried_rise logs part b w epoch report applied e (WantSent c inc req again block mode end) later h = h
carried_rise logs part b w epoch report applied e (GrantSent c block stamp inc req mode entry) later h = λ fact. let k = h fact in let low =
    k.low in record { low = omega arith; some = k.some; offered = λ reigns. absurd (omega arith) }
carried_rise logs part b w epoch report applied e (RecallSent c block stamp keep) later h = λ fact. let k = h fact in let low =
    k.low in record { low = omega arith; some = k.some; recalled = λ reigns. absurd (omega arith) }
carried_rise logs part b w epoch report applied e (GaveSent c block stamp end) later h =
    (h.0, λ fact. let low = (h.1 fact).0 in (omega arith, λ reigns. absurd (omega arith)))
carried_rise logs part b w epoch report applied e (ForwardSent passer c block stamp inc req ver) later h = λ fact. let k = h fact in let low =
    k.2.low in (k.0, k.1, record { low = omega arith; some = k.2.some; offered = λ reigns. absurd (omega arith) })
carried_rise logs part b w epoch report applied e (SupplySent c block stamp inc req ver value) later h = λ fact.
    let k = h fact in
    let low = k.2.low in (
      k.0,
      k.1,
      record { low = omega arith; some = k.2.some; offered = λ reigns. absurd (omega arith) },
      owed logs (Supplies stamp.epoch ver value (takeover.activates w epoch report applied e)) (λ _ reigns. absurd (omega arith)),
    )
carried_rise logs part b w epoch report applied e (ReportSent c entered rows end) later h = h

pub nothing_in_order : InOrder []
unfolding IsStrictlySortedBy
nothing_in_order = tt

-- the rows of those who report
pub rows_same : (members : ℕ) (rows more : ℕ → List (BlockId × Mode)) (order : List ℕ) → All (λ c. (0 < c) × (c < members)) order
    → ((c : ℕ) → 0 < c → c < members → rows c ≡ more c) → all_reported rows order ≡ all_reported more order
rows_same members rows more [] within same = refl
rows_same members rows more (c ∷ order) within same =
    λ i. reported c (same c (within 0 c (omega arith)).0 (within 0 c (omega arith)).1 i)
    ++ rows_same members rows more order (λ k d less. within (suc k) d (omega arith)) same i

pub most_rank : (mode : Mode) → mode_number mode ≤ 2
most_rank Nothing = omega arith
most_rank Copy = omega arith
most_rank Own = omega arith

pub two_ranks : (m k : ℕ) → m ≤ 2 → k ≤ 2 → (m ≡ 2 → 0 < k → ⊥) → (k ≡ 2 → 0 < m → ⊥) → m + k ≤ 2
two_ranks m k p q f g =
    elim (nat_lt 2 (m + k)) as (λ t. nat_lt 2 (m + k) ≡ t → m + k ≤ 2) [
      | true ↦ λ h. absurd (clash (nat_lt 1 m) refl h)
      | false ↦ λ h. grind (arith, nat_tests)
    ] refl
  where
    clash : (t : Bool) → nat_lt 1 m ≡ t → nat_lt 2 (m + k) ≡ true → ⊥
    clash true h more = f (grind (arith, nat_tests)) (grind (arith, nat_tests))
    clash false h more = g (grind (arith, nat_tests)) (grind (arith, nat_tests))

-- what the reports of all clients say of a block
pub record Told (members part : ℕ) (b : BlockId) (w : World) (epoch : ℕ) (rows : ℕ → List (BlockId × Mode)) (ends : ℕ → ℕ) (c : ℕ) : Type 0 where
  pub blocks : List (BlockId × Held)
  pub report : packets.Report
  pub sorted : InOrder blocks
  pub same : 0 < c → c < members → rows c ≡ held_in part blocks
  pub sent : c < members → In report w.reports
  pub sender : c < members → report.client ≡ c
  pub asked : c < members → report.epoch ≡ epoch
  pub mode : c < members → report.mode ≡ mode_number (held_of blocks b).mode
  pub end : 0 < c → c < members → report.end ≡ ends c
  pub nothing : (c < members → ⊥) → mode_number (held_of blocks b).mode ≡ 0

module _ (logs : Bool) (members part : ℕ) (b : BlockId) (n : Net) (v : View logs members part b n) (epoch : ℕ) (index : List (BlockId × Entry))
    (applied : List ℕ) (rows : ℕ → List (BlockId × Mode)) (ends : ℕ → ℕ)
    (none : n.slots epoch ≡ None) (order : List ℕ) (all : (c : ℕ) → 0 < c → c < members → Contains order c) (each : All (λ c. (0 < c) × (c < members)) order)
    (reports_sent : (c : ℕ) → 0 < c → c < members → In (ReportSent c epoch (rows c) (ends c)) n.sent) where
  abbrev pub old : World
  old = v.world

  -- nobody promises and reports too, with the end of a log in which nothing is
  abbrev pub promised_ : World
  promised_ = takeover.promises old 0 epoch

  abbrev pub now : World
  now = takeover.reports promised_ 0 (old.end 0)

  pub now_steps : old.epoch < epoch → Steps logs (start members) now
  now_steps later =
      More (More v.steps (PromisesStep 0 epoch (record { serving = v.nobody.serving; higher = let p = v.nobody.promised in omega arith })))
      (ReportsStep 0 (old.end 0) (record { serving = v.nobody.serving }) (owed logs (SettledEnd promised_ 0 (old.end 0)) (λ _. record { last_filed = refl })))

  pub hears : (c : ℕ) → Told members part b now epoch rows ends c
  hears zero = record {
    blocks = [];
    report = record { client = 0; epoch = epoch; mode = old_mode; end = old.end 0 };
    sorted = nothing_in_order;
    same = λ pos l. absurd (omega arith);
    sent = λ _. inl refl;
    sender = λ _. refl;
    asked = λ _. refl;
    mode = λ _. v.nobody.mode;
    end = λ pos l. absurd (omega arith);
    nothing = λ _. refl;
  }
    where
      old_mode : ℕ
      old_mode = (old.client 0).mode
  hears (suc k) = at (suc k) (omega arith)
    where
      no_less : (c n : ℕ) → nat_lt c n ≡ false → c < n → ⊥
      no_less c n h l = grind (arith, nat_tests)

      at : (c : ℕ) → 0 < c → Told members part b now epoch rows ends c
      at c pos =
          elim (nat_lt c members) as (λ t. nat_lt c members ≡ t → Told members part b now epoch rows ends c) [
            | true ↦ λ fact.
                let h = v.sent _ (reports_sent c pos (ltb-true c members fact)) in
                record {
                  blocks = h.0;
                  report = record { client = c; epoch = epoch; mode = mode_number (held_of h.0 b).mode; end = ends c };
                  sorted = h.1;
                  same = λ _ _. h.2;
                  sent = λ _. inr h.3;
                  sender = λ _. refl;
                  asked = λ _. refl;
                  mode = λ _. refl;
                  end = λ _ _. refl;
                  nothing = λ no. absurd (no (ltb-true c members fact));
                }
            | false ↦ λ fact. record {
              blocks = [];
              report = record { client = c; epoch = epoch; mode = 0; end = 0 };
              sorted = nothing_in_order;
              same = λ _ l. absurd (no_less c members fact l);
              sent = λ l. absurd (no_less c members fact l);
              sender = λ _. refl;
              asked = λ _. refl;
              mode = λ _. refl;
              end = λ _ l. absurd (no_less c members fact l);
              nothing = λ _. refl;
            }
          ] refl

  abbrev pub blocks : ℕ → List (BlockId × Held)
  blocks c = (hears c).blocks

  abbrev pub report : ℕ → packets.Report
  report c = (hears c).report

  abbrev pub beliefs : List (BlockId × ℕ × Mode)
  beliefs = all_reported rows order

  pub beliefs_are : beliefs ≡ all_reported (λ d. held_in part (blocks d)) order
  beliefs_are = rows_same members rows (λ d. held_in part (blocks d)) order each (λ c pos less. (hears c).same pos less)

  -- one that doesn't reign begins unheard; one of a later epoch reigns
  abbrev pub begun : SlotState
  begun = slot.slot_start epoch index beliefs applied

  -- of the log of nobody all is applied
  abbrev pub upto : ℕ → ℕ
  upto = put (applied_of applied) 0 (old.end 0)

  abbrev pub entry : abstract_entry.Entry
  entry = entry_seen (entry_of (merge_all block_index_new index).rows b)

  abbrev pub next : World
  next = takeover.activates now epoch report upto entry

  -- what was gathered is seen there
  pub gathers : Premise logs (Gathered members part n.books index applied ends) → is_in_slot part b ≡ true → Premise logs (IndexGathered now report upto entry)
  unfolding hears
  gathers gathered inside =
      owed_both logs (Kept b n.books old × CleanerEmpty old) (Gathered members part n.books index applied ends) (IndexGathered now report upto entry)
      (λ known g. gathered_of b n.books now known.0 report (applied_of applied) (entry_of (merge_all block_index_new index).rows b)
      (record { end = known.1.end; flight = known.1.flight; rows = known.1.rows; applied = known.1.applied; written = known.1.written }) refl
      (λ c pos less. let within : c < members = let m = v.many in omega arith in let e = (hears c).end pos within in let limit = g.reported c pos within in
      omega arith)
      g.filed (g.source b inside) (g.rows b inside))
      (owed_both logs (Kept b n.books old) (CleanerEmpty old) (Kept b n.books old × CleanerEmpty old) (λ k e. (k, e)) v.kept
      (nothing_of_nobody logs members old (let m = v.many in let some = v.some in omega arith) v.steps))
      gathered

  pub activates_steps : old.epoch < epoch → Premise logs (IndexGathered now report upto entry) → Steps logs (start members) next
  activates_steps later gathered =
      More (now_steps later) (ActivatesStep epoch report upto entry
      (record {
        later = later;
        sent = λ c less. (hears c).sent (within c less);
        sender = λ c less. (hears c).sender (within c less);
        asked = λ c less. (hears c).asked (within c less);
      }) gathered)
    where
      within : (c : ℕ) → c < now.members → c < members
      within c less = let m = v.many in omega arith

  pub later_view : old.epoch < epoch → is_in_slot part b ≡ true → Premise logs (IndexGathered now report upto entry) → Sound begun
      → View logs members part b (record n { slots = put n.slots epoch (Some begun) })
  unfolding hears activates_steps now_steps
  later_view later inside gathered sound = record {
    world = next;
    steps = activates_steps later gathered;
    many = v.many;
    some = v.some;
    nobody = record { serving = v.nobody.serving; mode = v.nobody.mode; promised = omega arith };
    positive = omega arith;
    clients = λ c pos less. subst (λ (x : Client). ClientShown (n.up c) b c (n.tokens c) epoch (record x { stamp = 0 }))
        (sym (put_there old.client 0 (record (old.client 0) { promised = epoch; fetching = 0 }) c (λ same. absurd (omega arith))))
        (risen c (n.up c) (v.clients c pos less));
    fell = v.fell;
    slot = begun;
    sound = sound;
    reigns = put_here n.slots epoch (Some begun);
    manages = activation_manages b now epoch index beliefs applied report upto
        (λ c less. let within : c < members = let m = v.many in omega arith in covered c within (one_numbers c 0))
        (λ c some. put_there (applied_of applied) 0 (old.end 0) c (λ same. absurd (omega arith)));
    past = put_each (λ e o. (s : SlotState) → o ≡ Some s → (e ≤ epoch) × (s.epoch ≡ e)) n.slots epoch (Some begun)
        (λ s fact. (omega arith, ap (λ (x : SlotState). x.epoch) (sym (some_one begun s fact))))
        (λ e other s fact. (let p = (v.past e s fact).0 in omega arith, (v.past e s fact).1));
    sent = λ p fact. carried_rise logs part b now epoch report upto entry p later
        (carried_on logs part b old now p
        (record { epoch = refl; wants = λ x h. h; gaves = λ x h. h; offers = λ x h. h; recalls = λ x h. h; reports = λ x h. inr h; lasts = unchanged })
        (v.sent p fact));
    kept = v.kept;
    acts = told_no_more logs ((before ++ []) ++ []) of_block (told_no_more logs (before ++ []) of_block (told_no_more logs before of_block v.acts));
  }
    where
      before : List block.Act
      before = told (start members) old v.steps

      of_block : List block.Act
      of_block = acts_of b n.acts

      unchanged : Premise logs (Lasts old now)
      unchanged = owed logs (Lasts old now) (λ _. record { join = omega arith; value = λ k _. refl })

      risen : (c : ℕ) (t : Bool) → ClientShown t b c (n.tokens c) old.epoch (old.client c)
          → ClientShown t b c (n.tokens c) epoch (record (old.client c) { stamp = 0 })
      risen c true h = activation_shows (setting b c (n.tokens c).inc) old.epoch epoch (local_of (n.tokens c) b) (old.client c) later h
      risen c false h =
          record {
            serving = h.serving;
            incarnation = h.incarnation;
            promised = h.promised;
            mode = h.mode;
            stamp = refl;
            want = h.want;
            version = h.version;
            settled = h.settled;
            fetching = h.fetching;
          }

      covered : (c : ℕ) → c < members → (c ≡ 0) ⊎ (c ≡ 0 → ⊥) → (report c).mode ≤ share_of (all_believed [] beliefs) b c
      covered c within (inl none) = let mode = (hears c).mode within in let z : mode_number (held_of (blocks c) b).mode ≡ 0 =
          ap (λ k. mode_number (held_of (blocks k) b).mode) none in omega arith
      covered c within (inr some) =
          let mode = (hears c).mode within in
          let limit = reports_believed part blocks order b c (λ d. (hears d).sorted) inside (all c (positive c some) within) in
          subst (λ xs. (report c).mode ≤ share_of (all_believed [] xs) b c) (sym beliefs_are) (omega arith)
        where
          positive : (c : ℕ) → (c ≡ 0 → ⊥) → 0 < c
          positive zero h = absurd (h refl)
          positive (suc k) h = omega arith

  -- the reports of a later epoch leave owners alone
  pub alone_here : old.epoch < epoch → Premise logs (IndexGathered now report upto entry) → (c d : ℕ) → (c ≡ d → ⊥)
      → share_of (all_believed [] beliefs) b c + share_of (all_believed [] beliefs) b d ≤ 2
  alone_here later gathered c d apart =
      let cover = beliefs_cover next (owned logs members next (activates_steps later gathered)) in
      let mode : (k : ℕ) → next.belief k ≡ mode_number (held_of (blocks k) b).mode = λ k. belief_is k (nat_lt k now.members) refl in
      let mc = mode c in let md = mode d in
      let sum = two_ranks (mode_number (held_of (blocks c) b).mode) (mode_number (held_of (blocks d) b).mode) (most_rank _) (most_rank _)
      (λ two some. apart (cover.single c d (mc ∙ two) (omega arith))) (λ two some. apart (sym (cover.single d c (md ∙ two) (omega arith)))) in
      let a = reports_most part b c blocks order (λ k. (hears k).sorted) in
      let e = reports_most part b d blocks order (λ k. (hears k).sorted) in
      subst (λ xs. share_of (all_believed [] xs) b c + share_of (all_believed [] xs) b d ≤ 2) (sym beliefs_are) (omega arith)
    where
      no_less : (c n : ℕ) → nat_lt c n ≡ false → c < n → ⊥
      no_less c n h l = grind (arith, nat_tests)

      belief_is : (k : ℕ) (t : Bool) → nat_lt k now.members ≡ t → cond t (report k).mode 0 ≡ mode_number (held_of (blocks k) b).mode
      belief_is k true fact = (hears k).mode (let m = v.many in let l = ltb-true k now.members fact in omega arith)
      belief_is k false fact = sym ((hears k).nothing (λ l. no_less k now.members fact (let m = v.many in omega arith)))
