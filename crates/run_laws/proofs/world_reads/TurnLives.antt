-- What was answered Live in the small world of a slot's index is of a version from 1 on: it lies somewhere, and its entry is a row of a filed segment.
use Rattle.std.proofs.Common.{◌≡◌, ◌⊎◌, ℕ, ◌<◌, ◌≤◌, ◌&&◌, true, false, nat_lt, nat_le, List, [], ◌∷◌, ◌++◌, Option, None, Some, inl, inr, refl, sym, subst, arith}
use Rattle.std.proofs.lemmas.Bool.Decides.{nat_tests}
use Rattle.std.specs.List.{AllByRecursion}
use Rattle.checkpoint.specs.WriterState.{Rows}
use Rattle.delta_index.specs.Entries.{no_entry}
use Rattle.index_tie.proofs.Rows.{join_has}
use Rattle.index_tie.proofs.Runs.{good_in}
use Rattle.index_tie.specs.Filed.{IsFiled}
use Rattle.headline.specs.Filed.{Filed, row_at, rows_at}
use Rattle.headline.specs.Indexes.{IsAppliedRow}
use Rattle.index_tie.specs.Net.{Net, Happens, Packet, Runs, answer_packets, opening}
use Rattle.index_tie.specs.Net.Happens.{ClientFiles, CleanerFiles, GetsDeltas, GetsOther, Answers, Plans, Cleans, Checkpoints, Keeps, Moves, Activates, Promises, JobPromises, JobWelcomed, Reports, JobBegins, JobReads, Asks, JobHearsDead, JobTakes}
use Rattle.index_tie.specs.Net.Packet.{AnsweredDead, AnsweredLive}
use Rattle.index_tie.specs.Net.Runs.{Begun, On}
use Rattle.index_tie.specs.NetLaws.{EachIndexIsTheJoin}
use Rattle.log_protocol.specs.Tables.{In}
use Rattle.segment_format.specs.declared.segment.Segment.{Segment}
use Rattle.segment_format.specs.Rows.{rows_of}
use Rattle.token_manager.specs.SlotState.{SlotState}
use Rattle.token_manager.specs.Transition.{entry_at, found, is_place}
use Rattle.xfs_base.proofs.Booleans.{by_test, contrary}
use Rattle.xfs_base.specs.Blocks.{slot_of}
use Rattle.xfs_base.specs.declared.block.BlockId.{BlockId}
use Rattle.xfs_base.specs.declared.entry.Entry.{Entry}
use Rattle.xfs_base.specs.declared.entry.Place.{Place}
use Rattle.xfs_base.specs.declared.segment.SegRef.{SegRef}

-- where it lies anywhere it is of a version from 1 on
abbrev LiesSo : Entry → Type 0
LiesSo entry = (place : Place) → entry.place ≡ Some place → 0 < entry.ver

nowhere : LiesSo no_entry
nowhere place fact = absurd (cc)

rows_lie : (rows : List (BlockId × Entry)) → AllByRecursion (λ row. 0 < row.1.ver) rows → AllByRecursion (λ (row : BlockId × Entry). LiesSo row.1) rows
rows_lie [] all = tt
rows_lie (row ∷ rows) all = (λ place fact. all.0, rows_lie rows all.1)

module _ (f : Filed) (filed : IsFiled f) where
  filed_rows : (l q : ℕ) → AllByRecursion (λ (row : BlockId × Entry). LiesSo row.1) (rows_at f l q)
  filed_rows l q =
      by_test (AllByRecursion (λ (row : BlockId × Entry). LiesSo row.1)) (nat_lt 0 q && nat_le q (f.head l)) (rows_of (f.segment l q)) []
      (λ fact. rows_lie (rows_of (f.segment l q)) (filed.each l q (some q (f.head l) fact) (limit q (f.head l) fact)).versions) (λ fact. tt)
    where
      some : (a c : ℕ) → (nat_lt 0 a && nat_le a c) ≡ true → 0 < a
      some a c h = grind (arith, nat_tests)

      limit : (a c : ℕ) → (nat_lt 0 a && nat_le a c) ≡ true → a ≤ c
      limit a c h = grind (arith, nat_tests)

  row_lies : (b : BlockId) (l q : ℕ) → LiesSo (row_at f b l q)
  row_lies b l q = join_has LiesSo b (rows_at f l q) nowhere (filed_rows l q)

  entry_lies : (b : BlockId) (s : SlotState) (entry : Entry) → (entry ≡ no_entry) ⊎ IsAppliedRow b f s entry → LiesSo entry
  entry_lies b s entry (inl none) = subst LiesSo (sym none) nowhere
  entry_lies b s entry (inr row) = subst LiesSo (sym row.is_row) (row_lies b row.log row.seq)

at_some : (o : Option Place) (place : Place) → is_place o place ≡ true → (at : Place) × (o ≡ Some at)
at_some None place fact = contrary fact
at_some (Some at) place fact = (at, refl)

-- ---- runs of the small world

module _ (joins : EachIndexIsTheJoin) (part : ℕ) (holds : SegRef → Rows) (first : ℕ → ℕ → Segment) where
  abbrev pub LivesLie : Net → Type 0
  LivesLie n = (b : BlockId) (entry : Entry) → slot_of b.ino.0 ≡ part → In (AnsweredLive b entry) n.sent → 0 < entry.ver

  same_block : (a b : BlockId) (x y : Entry) → AnsweredLive a x ≡ AnsweredLive b y → a ≡ b
  same_block a b x y fact = cc

  same_entry : (a b : BlockId) (x y : Entry) → AnsweredLive a x ≡ AnsweredLive b y → x ≡ y
  same_entry a b x y fact = cc

  -- what a slot answers
  answers_lie : (n : Net) → Runs part holds (opening first) n → LivesLie n → (e : ℕ) (s : SlotState) (number : ℕ) (b : BlockId) (place : Place) (d : ℕ)
      → n.slots e ≡ Some s → (a : BlockId) (entry : Entry) → slot_of a.ino.0 ≡ part
      → In (AnsweredLive a entry) (answer_packets number b place.seg.name d e (found (entry_at s b) place ∷ []) ++ n.sent) → 0 < entry.ver
  answers_lie n run lives e s number b place d at a entry inside =
      by_test (λ o. In (AnsweredLive a entry) (answer_packets number b place.seg.name d e (o ∷ []) ++ n.sent) → 0 < entry.ver)
      (is_place (entry_at s b).place place) _ _ live dead
    where
      live : is_place (entry_at s b).place place ≡ true → In (AnsweredLive a entry) (AnsweredLive b (entry_at s b) ∷ n.sent) → 0 < entry.ver
      live fact (inl same) =
          let here : slot_of b.ino.0 ≡ part = subst (λ (x : BlockId). slot_of x.ino.0 ≡ part) (same_block a b entry (entry_at s b) same) inside in
          let where_is = at_some (entry_at s b).place place fact in
          subst (λ (x : Entry). 0 < x.ver) (sym (same_entry a b entry (entry_at s b) same))
          (entry_lies n.filed (good_in part holds first n run).filed b s (entry_at s b)
          (joins part holds n b e s (record { any = first; run = run; inside = here }) at).one where_is.0 where_is.1)
      live fact (inr older) = lives a entry inside older

      dead : is_place (entry_at s b).place place ≡ false → In (AnsweredLive a entry) (AnsweredDead number b place.seg.name d e ∷ n.sent) → 0 < entry.ver
      dead fact (inl same) = absurd (cc)
      dead fact (inr older) = lives a entry inside older

  -- another packet is sent
  more_lie : (n : Net) → LivesLie n → (p : Packet) → ((b : BlockId) (entry : Entry) → AnsweredLive b entry ≡ p → ⊥) → (b : BlockId) (entry : Entry)
      → slot_of b.ino.0 ≡ part → In (AnsweredLive b entry) (p ∷ n.sent) → 0 < entry.ver
  more_lie n lives p other b entry inside (inl same) = absurd (other b entry same)
  more_lie n lives p other b entry inside (inr older) = lives b entry inside older

  happens_lie : (n m : Net) → Runs part holds (opening first) n → Happens part holds n m → LivesLie n → LivesLie m
  happens_lie n m run (ClientFiles l s some less fact newer) lives = lives
  happens_lie n m run (CleanerFiles s fact copies) lives = lives
  happens_lie n m run (GetsDeltas e s log first upto rows at known tell) lives = lives
  happens_lie n m run (GetsOther e s i at of) lives = lives
  happens_lie n m run (Answers e s number b place d at asked) lives = answers_lie n run lives e s number b place d at
  happens_lie n m run (Plans e s events horizon at pages all next) lives = more_lie n lives _ (λ b entry fact. absurd (cc))
  happens_lie n m run (Cleans e s at) lives = lives
  happens_lie n m run (Checkpoints e events horizon segments planned laid) lives = more_lie n lives _ (λ b entry fact. absurd (cc))
  happens_lie n m run (Keeps horizon parts done rises) lives = lives
  happens_lie n m run Moves lives = lives
  happens_lie n m run (Activates e news groups clients inputs input rows beliefs applied none some begun hands has) lives = lives
  happens_lie n m run (Promises e rises none) lives = lives
  happens_lie n m run (JobPromises e rises) lives = lives
  happens_lie n m run (JobWelcomed slots groups rises) lives = lives
  happens_lie n m run Reports lives = more_lie n lives _ (λ b entry fact. absurd (cc))
  happens_lie n m run (JobBegins count) lives = lives
  happens_lie n m run (JobReads read owes) lives = lives
  happens_lie n m run (Asks b place d promised within below_ lies) lives = more_lie n lives _ (λ b entry fact. absurd (cc))
  happens_lie n m run (JobHearsDead number b epoch name d answered hand) lives = lives
  happens_lie n m run (JobTakes i other) lives = lives

  pub lives_lie : (n : Net) → Runs part holds (opening first) n → LivesLie n
  lives_lie n Begun = λ b entry inside among. absurd among
  lives_lie n (On {m = x} run happens) = happens_lie x n run happens (lives_lie x run)
