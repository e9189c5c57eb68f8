-- How a change ends on a disk in memory, by the passes that a waiting stop leaves it.
use Rattle.std.proofs.Common.{◌≡◌, ◌⊎◌, inl, inr, ℕ, ◌+◌, ◌-◌, ◌≤◌, nat_le, nat_eq, not, Bool, true, false, cond, Option, Some, None, List, [], ◌∷◌, ◌++◌, length, take, drop, refl, sym, ap, subst, ◌∙◌, arith, length-append}
use Rattle.std.proofs.lemmas.Bool.Decides.{nat_tests}
use Rattle.disk_shelf.specs.declared.record.Record.{Record}
use Rattle.disk_shelf.specs.Deeds.{Deed, Images, IsImage, after_deed, first_half, images, written_over}
use Rattle.disk_shelf.specs.Deeds.Deed.{Write, Sync}
use Rattle.disk_shelf.specs.Disk.{Torn, Writes}
use Rattle.disk_shelf.specs.Gates.{HasClosed}
use Rattle.disk_shelf.specs.MemDisk.{Drive, MemState, acted, disk_bytes, failed, is_due, one_less, passed}
use Rattle.disk_shelf.specs.Records.{DiskState, Fits, IsAtRest, StandsFor, after_record, text}
use Rattle.disk_shelf.specs.Steps.{AppendedBy, PutBy}
use Rattle.disk_shelf.specs.Stops.{ChangesEndByPasses, EndsByPasses, MemTook, is_answered, is_there, passes_after}
use Rattle.disk_shelf.proofs.Crash.{torn_behind, written_behind, written_gate}
use Rattle.disk_shelf.specs.Drives.{gate_of, put_on, then_on, with_record}
use Rattle.disk_shelf.proofs.Deeds.{deeds_more}
use Rattle.disk_shelf.proofs.Doing.{appended_so, gate_is}
use Rattle.disk_shelf.proofs.Overwriting.{half_torn, over_writes}
use Rattle.disk_shelf.proofs.Rest.{closed_stands, open_stands, rest_closed, rest_goes_on}
use Rattle.xfs_base.proofs.Booleans.{contrary}

no_true : {A : Type 0} → true ≡ false → A
no_true e = contrary (sym e)

-- ---- one write or sync

-- a disk that runs did it, and the stop was due or not
pub record Ran (d : Drive) (deed : Bool → Deed) (e : Drive) : Type 0 where
  pub deeds : e.deeds ≡ d.deeds ++ deed (is_due d.passes) ∷ []
  pub stopped : e.stopped ≡ is_due d.passes
  pub passes : is_due d.passes ≡ false → e.passes ≡ one_less d.passes

ran : (d : Drive) (deed : Bool → Deed) (e : Drive) → d.stopped ≡ false → e ≡ acted d deed → Ran d deed e
ran d deed e runs is = subst (λ (x : Drive). Ran d deed x) (sym (is ∙ ap (λ (b : Bool). cond b (failed d) on) runs)) (by (is_due d.passes) refl)
  where
    on : Drive
    on = passed (is_due d.passes) (record d { deeds = d.deeds ++ deed (is_due d.passes) ∷ [] })

    by : (t : Bool) → is_due d.passes ≡ t → Ran d deed on
    by true due = subst (λ (b : Bool). Ran d deed (passed b (record d { deeds = d.deeds ++ deed (is_due d.passes) ∷ [] }))) (sym due)
        (record { deeds = refl; stopped = sym due; passes = λ no. no_true (sym due ∙ no) })
    by false due = subst (λ (b : Bool). Ran d deed (passed b (record d { deeds = d.deeds ++ deed (is_due d.passes) ∷ [] }))) (sym due)
        (record { deeds = refl; stopped = runs ∙ sym due; passes = λ no. refl })

-- ---- a write and a sync

abbrev has_two : Option ℕ → Bool
has_two None = true
has_two (Some passes) = nat_le 2 passes

abbrev two_less : Option ℕ → Option ℕ
two_less None = None
two_less (Some passes) = Some (passes - 2)

two_of : (p : Option ℕ) → is_due p ≡ false → is_due (one_less p) ≡ false → (has_two p ≡ true) × (one_less (one_less p) ≡ two_less p)
two_of None a b = (refl, refl)
two_of (Some n) a b = (two_left n a b, ap Some (omega arith))
  where
    two_left : (m : ℕ) → nat_eq m 0 ≡ false → nat_eq (m - 1) 0 ≡ false → nat_le 2 m ≡ true
    two_left m a b = grind (arith, nat_tests)

not_two : (p : Option ℕ) → (is_due p ≡ true) ⊎ ((is_due p ≡ false) × (is_due (one_less p) ≡ true)) → has_two p ≡ false
not_two None (inl a) = contrary a
not_two None (inr b) = contrary b.1
not_two (Some n) (inl a) = grind (arith, nat_tests)
not_two (Some n) (inr b) = one_left n b.0 b.1
  where
    one_left : (m : ℕ) → nat_eq m 0 ≡ false → nat_eq (m - 1) 0 ≡ true → nat_le 2 m ≡ false
    one_left m a b = grind (arith, nat_tests)

abbrev MemPut : MemState → ℕ → List ℕ → Bool → MemState → Type 0
MemPut =
    PutBy
    (λ (m : MemState) (at : ℕ) (piece : List ℕ) (ok : Bool) (n : MemState). (n.drive ≡ acted m.drive (Write at piece)) × (ok ≡ not n.drive.stopped))
    (λ (m : MemState) (ok : Bool) (n : MemState). (n.drive ≡ acted m.drive Sync) × (ok ≡ not n.drive.stopped))

abbrev MemAppended : MemState → ℕ → List ℕ → Bool → MemState → Type 0
MemAppended =
    AppendedBy
    (λ (m : MemState) (at : ℕ) (piece : List ℕ) (ok : Bool) (n : MemState). (n.drive ≡ acted m.drive (Write at piece)) × (ok ≡ not n.drive.stopped))
    (λ (m : MemState) (ok : Bool) (n : MemState). (n.drive ≡ acted m.drive Sync) × (ok ≡ not n.drive.stopped))

-- it is answered with two passes less, and kept; or of the piece there is the first half
record PutEnds (m : MemState) (at : ℕ) (piece : List ℕ) (ok : Bool) (n : MemState) : Type 0 where
  answered : ok ≡ has_two m.drive.passes
  passed : ok ≡ true → (images n.drive.deeds ≡ record {
    read = written_over (images m.drive.deeds).read at piece;
    kept = written_over (images m.drive.deeds).read at piece;
  }) × (n.drive.passes ≡ two_less m.drive.passes) × (n.drive.stopped ≡ false)
  cut : ok ≡ false → disk_bytes n ≡ written_over (images m.drive.deeds).kept at (first_half piece)

module _ (at : ℕ) (piece : List ℕ) where
  ran_write : (m n : MemState) (stops : Bool) → n.drive.deeds ≡ m.drive.deeds ++ Write at piece stops ∷ []
      → images n.drive.deeds ≡ after_deed (images m.drive.deeds) (Write at piece stops)
  ran_write m n stops more = ap images more ∙ deeds_more (record { read = []; kept = [] }) m.drive.deeds (Write at piece stops)

  ran_sync : (m n : MemState) (stops : Bool) → n.drive.deeds ≡ m.drive.deeds ++ Sync stops ∷ []
      → images n.drive.deeds ≡ after_deed (images m.drive.deeds) (Sync stops)
  ran_sync m n stops more = ap images more ∙ deeds_more (record { read = []; kept = [] }) m.drive.deeds (Sync stops)

  put_ends : (m : MemState) (ok : Bool) (n : MemState) → m.drive.stopped ≡ false → MemPut m at piece ok n → PutEnds m at piece ok n
  put_ends m ok n runs (inl (wrote, is_cut)) =
      let r = ran m.drive (Write at piece) n.drive runs wrote.0 in
      let due : is_due m.drive.passes ≡ true = sym r.stopped ∙ not_false n.drive.stopped (sym wrote.1) in
      record {
        answered = is_cut ∙ sym (not_two m.drive.passes (inl due));
        passed = λ yes. no_true (sym yes ∙ is_cut);
        cut = λ no. ap (λ (i : Images). i.read) (ran_write m n true (r.deeds ∙ ap (λ (b : Bool). m.drive.deeds ++ Write at piece b ∷ []) due));
      }
    where
      not_false : (b : Bool) → not b ≡ false → b ≡ true
      not_false true e = refl
      not_false false e = no_true e
  put_ends m ok n runs (inr (mid, wrote, synced)) =
      let r = ran m.drive (Write at piece) mid.drive runs wrote.0 in
      let on : mid.drive.stopped ≡ false = not_true mid.drive.stopped (sym wrote.1) in
      let due : is_due m.drive.passes ≡ false = sym r.stopped ∙ on in
      let t = ran mid.drive Sync n.drive on synced.0 in
      let written = ran_write m mid false (r.deeds ∙ ap (λ (b : Bool). m.drive.deeds ++ Write at piece b ∷ []) due) in
      let next : is_due mid.drive.passes ≡ is_due (one_less m.drive.passes) = ap is_due (r.passes due) in
      by (is_due mid.drive.passes) refl r on due t written next
    where
      not_true : (b : Bool) → not b ≡ true → b ≡ false
      not_true true e = contrary e
      not_true false e = refl

      by : (b : Bool) → is_due mid.drive.passes ≡ b → Ran m.drive (Write at piece) mid.drive → mid.drive.stopped ≡ false → is_due m.drive.passes ≡ false
          → Ran mid.drive Sync n.drive → images mid.drive.deeds ≡ after_deed (images m.drive.deeds) (Write at piece false)
          → is_due mid.drive.passes ≡ is_due (one_less m.drive.passes) → PutEnds m at piece ok n
      by true last r on due t written next =
          let is_cut : ok ≡ false = synced.1 ∙ ap not (t.stopped ∙ last) in
          record {
            answered = is_cut ∙ sym (not_two m.drive.passes (inr (due, sym next ∙ last)));
            passed = λ yes. no_true (sym yes ∙ is_cut);
            cut = λ no. ap (λ (i : Images). i.read) (ran_sync mid n true (t.deeds ∙ ap (λ (b : Bool). mid.drive.deeds ++ Sync b ∷ []) last))
                ∙ ap (λ (i : Images). i.kept) written;
          }
      by false last r on due t written next =
          let went : ok ≡ true = synced.1 ∙ ap not (t.stopped ∙ last) in
          let two = two_of m.drive.passes due (sym next ∙ last) in
          record {
            answered = went ∙ sym two.0;
            passed = λ yes. (
              ran_sync mid n false (t.deeds ∙ ap (λ (b : Bool). mid.drive.deeds ++ Sync b ∷ []) last)
                  ∙ ap (λ (i : Images). after_deed i (Sync false)) written,
              t.passes last ∙ ap one_less (r.passes due) ∙ two.1,
              t.stopped ∙ last,
            );
            cut = λ no. no_true (sym went ∙ no);
          }

-- ---- a change

four_of : (p : Option ℕ) → has_two p ≡ true → (has_two (two_less p) ≡ is_answered p) × (two_less (two_less p) ≡ passes_after p) × (is_there p ≡ true)
four_of None a = (refl, refl, refl)
four_of (Some n) a = (by (nat_le 4 n) refl, ap Some (omega arith), a)
  where
    by : (t : Bool) → nat_le 4 n ≡ t → nat_le 2 (n - 2) ≡ nat_le 4 n
    by true e = enough n e ∙ sym e
      where
        enough : (m : ℕ) → nat_le 4 m ≡ true → nat_le 2 (m - 2) ≡ true
        enough m e = grind (arith, nat_tests)
    by false e = short n e ∙ sym e
      where
        short : (m : ℕ) → nat_le 4 m ≡ false → nat_le 2 (m - 2) ≡ false
        short m e = grind (arith, nat_tests)

not_four : (p : Option ℕ) → has_two p ≡ false → (is_answered p ≡ false) × (is_there p ≡ false)
not_four None a = no_true a
not_four (Some n) a = (short n a, a)
  where
    short : (m : ℕ) → nat_le 2 m ≡ false → nat_le 4 m ≡ false
    short m e = grind (arith, nat_tests)

abbrev MemRest : MemState → ℕ → DiskState → Type 0
MemRest = IsAtRest (λ (m : MemState). disk_bytes m) (λ (m : MemState) (c : List ℕ). IsImage (images m.drive.deeds) c)

module _ (m : MemState) (s : DiskState) (r : Record) (gate : ℕ) (rests : MemRest m gate s) where
  abbrev read : List ℕ
  read = disk_bytes m

  abbrev front : List ℕ
  front = take gate read

  abbrev behind : List ℕ
  behind = text r ++ 0 ∷ []

  shut : HasClosed gate front read
  shut = rest_closed (λ (x : MemState). disk_bytes x) (λ (x : MemState) (c : List ℕ). IsImage (images x.drive.deeds) c) m gate s rests

  long : gate + 1 ≤ length read
  long = omega (arith, ap length shut.whole, length-append front (shut.gate ∷ shut.rest), shut.place)

  kept_is : (images m.drive.deeds).kept ≡ read
  kept_is = rests.durable (images m.drive.deeds).kept (inr refl)

  -- a stop within the first two leaves the gate closed
  cut_before : (n : MemState) → PutEnds m (gate + 1) behind false n → StandsFor s (disk_bytes n)
  cut_before n ends =
      let c : List ℕ = disk_bytes n in
      let half : c ≡ written_over read (gate + 1) (first_half behind) = ends.cut refl ∙ ap (λ (l : List ℕ). written_over l (gate + 1) (first_half behind)) kept_is in
      let torn : Torn (gate + 1) (length behind) read c = subst (Torn (gate + 1) (length behind) read) (sym half) (half_torn read (gate + 1) behind) in
      closed_stands (λ (x : MemState). disk_bytes x) (λ (x : MemState) (d : List ℕ). IsImage (images x.drive.deeds) d) m gate s rests c
      (torn_behind front gate shut.gate shut.rest shut.place shut.shut (length behind) c (subst (λ (d : List ℕ). Torn (gate + 1) (length behind) d c) shut.whole torn))

  -- a stop within the other two leaves the gate open, and the record behind it
  cut_after : (mid n : MemState) → Fits r → PutEnds m (gate + 1) behind true mid → PutEnds mid gate (1 ∷ []) false n
      → StandsFor (after_record s r) (disk_bytes n)
  cut_after mid n fits first second =
      let c : List ℕ = disk_bytes n in
      let staged : List ℕ = written_over read (gate + 1) behind in
      let rest : List ℕ = drop (gate + 1 + length behind) (front ++ shut.gate ∷ shut.rest) in
      let is : staged ≡ front ++ shut.gate ∷ (behind ++ rest) =
      written_behind front gate shut.gate shut.rest shut.place shut.shut behind staged
      (subst (λ (d : List ℕ). Writes d (gate + 1) behind staged) shut.whole (over_writes read (gate + 1) behind long)) in
      let inside : gate ≤ length staged = omega (arith, ap length is, length-append front (shut.gate ∷ (behind ++ rest)), shut.place) in
      let over : c ≡ written_over staged gate (1 ∷ []) =
      second.cut refl ∙ ap (λ (i : Images). written_over i.kept gate (1 ∷ [])) (first.passed refl).0 in
      let writes : Writes staged gate (1 ∷ []) c = subst (Writes staged gate (1 ∷ [])) (sym over) (over_writes staged gate (1 ∷ []) inside) in
      open_stands (λ (x : MemState). disk_bytes x) (λ (x : MemState) (d : List ℕ). IsImage (images x.drive.deeds) d) m gate s rests r fits c
      (written_gate front gate shut.gate rest shut.place shut.shut behind c (subst (λ (d : List ℕ). Writes d gate (1 ∷ []) c) is writes))

module _ (old : MemState) (s t : DiskState) (change : Record) (ok : Bool) (new : MemState) (runs : old.drive.stopped ≡ false)
    (took : MemTook old s t change ok new) where
  abbrev m : MemState
  m = took.roomy

  abbrev gate : ℕ
  gate = took.gate

  roomy : MemRest m gate s
  roomy =
      rest_goes_on (λ (x : MemState). disk_bytes x) (λ (x : MemState) (c : List ℕ). IsImage (images x.drive.deeds) c) old m gate s took.rests
      (ap (λ (d : Drive). (images d.deeds).read) took.room) (λ c left. subst (λ (d : Drive). IsImage (images d.deeds) c) took.room left)

  passes_are : m.drive.passes ≡ old.drive.passes
  passes_are = ap (λ (d : Drive). d.passes) took.room

  -- all that was done to it
  did : (new.drive ≡ with_record change old.drive) × (ok ≡ not new.drive.stopped)
  did =
      let all = appended_so gate (text change ++ 0 ∷ []) m ok new took.appended in
      let at : gate ≡ gate_of old.drive = sym (gate_is took.rests.records gate (disk_bytes old) took.rests.fit took.rests.closed) in (
        all.0 ∙ ap (λ (d : Drive). then_on (put_on gate (1 ∷ [])) (put_on (gate + 1) (text change ++ 0 ∷ []) d)) took.room
            ∙ ap (λ g. then_on (put_on g (1 ∷ [])) (put_on (g + 1) (text change ++ 0 ∷ []) old.drive)) at,
        all.1,
      )

  runs_still : m.drive.stopped ≡ false
  runs_still = ap (λ (d : Drive). d.stopped) took.room ∙ runs

  ends_so : EndsByPasses old s t change ok new
  ends_so = by took.appended
    where
      by : MemAppended m gate (text change ++ 0 ∷ []) ok new → EndsByPasses old s t change ok new
      by (inl (put, is_cut)) =
          let ends = put_ends (gate + 1) (text change ++ 0 ∷ []) m false new runs_still put in
          let few : has_two old.drive.passes ≡ false = sym (ends.answered ∙ ap has_two passes_are) in
          let so = not_four old.drive.passes few in
          record {
            drive = did.0;
            runs = did.1;
            answered = is_cut ∙ sym so.0;
            passed = λ yes. no_true (sym yes ∙ is_cut);
            cut = λ no. subst (λ (b : Bool). StandsFor (cond b t s) (disk_bytes new)) (sym so.1) (cut_before m s change gate roomy new ends);
          }
      by (inr (mid, put, over)) =
          let first = put_ends (gate + 1) (text change ++ 0 ∷ []) m true mid runs_still put in
          let went = first.passed refl in
          let second = put_ends gate (1 ∷ []) mid ok new went.2 over in
          let so = four_of old.drive.passes (sym (first.answered ∙ ap has_two passes_are)) in
          let left : mid.drive.passes ≡ two_less old.drive.passes = went.1 ∙ ap two_less passes_are in
          record {
            drive = did.0;
            runs = did.1;
            answered = second.answered ∙ ap has_two left ∙ so.0;
            passed = λ yes. ((second.passed yes).1 ∙ ap two_less left ∙ so.1, (second.passed yes).2);
            cut = λ no. subst (λ (b : Bool). StandsFor (cond b t s) (disk_bytes new)) (sym so.2)
                (subst (λ (u : DiskState). StandsFor u (disk_bytes new)) took.makes (cut_after m s change gate roomy mid new took.fits first (subst (λ (b : Bool). PutEnds mid gate (1 ∷ []) b new) no second)));
          }

pub changes_end_by_passes : ChangesEndByPasses
changes_end_by_passes old s t change ok new runs took = ends_so old s t change ok new runs took
