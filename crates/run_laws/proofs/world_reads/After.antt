-- After an event: of each log the small worlds know the same, what is filed tells of each block once, and the books have what its owner had in flight last.
use Rattle.std.proofs.Common.{◌≡◌, ◌⊎◌, ◌≤◌, ◌<◌, ◌==◌, ℕ, suc, Bool, true, false, Option, nat_le, inl, inr, refl, sym, subst, ◌∙◌, arith}
use Rattle.std.proofs.lemmas.Bool.{eqb-true}
use Rattle.std.proofs.lemmas.Bool.Decides.{nat_tests}
use Rattle.std.specs.Prelude.{IfSome}
use Rattle.run_laws.specs.index_reads.Ties.{BooksAre}
use Rattle.headline.specs.Filed.{Filed}
use Rattle.log_flight.specs.Flights.{FlightState}
use Rattle.log_law.specs.Restarts.{last_flight}
use Rattle.log_law.specs.Tails.{then_on}
use Rattle.node_slots.specs.node_tie.LogRows.{rows_told}
use Rattle.node_slots.specs.node_tie.Sight.{SameLog}
use Rattle.node_slots.specs.owner_index_tie.Filing.{IsSameLog}
use Rattle.run_laws.specs.reopening_law.Flights.{LastFlew}
use Rattle.run_laws.specs.segment_tie.Segments.{TellsOnce}
use Rattle.token_law.specs.Books.{Books}
use Rattle.run_laws.specs.world_lines.Lines.{IsLine}
use Rattle.run_laws.specs.world_logs.Lines.{IsLeft, setting}
use Rattle.headline.specs.Logs.{Role, log_by, renews}
use Rattle.headline.specs.Logs.Role.{OfClient, OfCleaner, OfManager}
use Rattle.xfs_base.proofs.Booleans.{contrary}
use Rattle.xfs_base.specs.Limits.{block_logs}
use Rattle.xfs_base.specs.Logs.{cleaners_number}
use Rattle.run_laws.proofs.world_reads.AfterOwn.{OwnAfter}
use Rattle.run_laws.proofs.world_reads.AfterLogs.{flight_left, stays_known}
use Rattle.run_laws.proofs.world_reads.AfterTells.{tells_same}
use Rattle.run_laws.specs.world_reads.Joint.{There, WritesKind, flew_at, log_at}
use Rattle.run_laws.proofs.world_reads.Below.{Below}
use Rattle.run_laws.specs.world_reads.LoggedRuns.{LoggedRun}

module _ (logged : LoggedRun) (part : ℕ) where
  open logged use {base, estate as e, lines}

  -- some owner has this log
  abbrev pub Owns : ℕ → Role → Type 0
  Owns l r = There logged part r × (renews r ≡ false) × (log_by r ≡ l)

  -- what is known of the log of each owner at a count
  abbrev pub KnownAt : ℕ → Books → Filed → (r : Role) → There logged part r → Type 0
  KnownAt count k f r there = OwnAfter (WritesKind r) (log_by r) ((lines r there).stands count).moment k f

  abbrev pub AllKnown : ℕ → Books → Filed → Type 0
  AllKnown count k f = (r : Role) (there : There logged part r) → renews r ≡ false → KnownAt count k f r there

  -- what nobody has nobody files
  pub record NothingElse (k : Books) (f : Filed) : Type 0 where
    pub head : (l : ℕ) → ((r : Role) → Owns l r → ⊥) → f.head l ≡ 0
    pub end : (l : ℕ) → 0 < l → l ≤ block_logs → ((r : Role) → Owns l r → ⊥) → k.end l ≡ 0

  -- ---- what a moment has of it

  pub record OfLogs (count : ℕ) (k : Books) (f : Filed) : Type 0 where
    pub books : BooksAre k f
    pub lined : (r : Role) (there : There logged part r) → renews r ≡ false
        → IsLine (log_by r) (log_at logged part r there count) f
    pub alone : (l : ℕ) → ((r : Role) → There logged part r → renews r ≡ false → log_by r ≡ l → ⊥) → f.head l ≡ 0
    pub tells : (l q : ℕ) → 0 < q → q ≤ f.head l → TellsOnce (f.segment l q)
    pub flew : (r : Role) (there : There logged part r) → renews r ≡ false
        → LastFlew k (log_by r) (flew_at logged part r there count)
    pub kind : (r : Role) (there : There logged part r) → renews r ≡ false
        → IfSome (flew_at logged part r there count) (λ f. WritesKind r f.segment)

  -- the owner of a log, or none
  whose : (l : ℕ) → ((r : Role) × Owns l r) ⊎ ((r : Role) → Owns l r → ⊥)
  whose l = by_cleaner (l == cleaners_number) refl
    where
      none : (l == cleaners_number) ≡ false → (nat_le 1 l) ≡ true → (nat_le l e.script.setup.clients) ≡ false → (r : Role) → Owns l r → ⊥
      none a b d (OfClient c) (there, keeps, fact) = (let m = there.1 in absurd (grind (arith, nat_tests, a, b, d, m, fact)))
      none a b d OfCleaner (there, keeps, fact) = absurd (grind (arith, nat_tests, a, fact))
      none a b d (OfManager j) (there, keeps, fact) = contrary (sym keeps)

      none_zero : (l == cleaners_number) ≡ false → (nat_le 1 l) ≡ false → (r : Role) → Owns l r → ⊥
      none_zero a b (OfClient c) (there, keeps, fact) = (let m = there.0 in absurd (grind (arith, nat_tests, a, b, m, fact)))
      none_zero a b OfCleaner (there, keeps, fact) = absurd (grind (arith, nat_tests, a, fact))
      none_zero a b (OfManager j) (there, keeps, fact) = contrary (sym keeps)

      by_most : (t : Bool) → nat_le l e.script.setup.clients ≡ t → (l == cleaners_number) ≡ false → nat_le 1 l ≡ true
          → ((r : Role) × Owns l r) ⊎ ((r : Role) → Owns l r → ⊥)
      by_most true fact other some = inl (OfClient l, ((grind (arith, nat_tests, some), grind (arith, nat_tests, fact)), refl, refl))
      by_most false fact other some = inr (none other some fact)

      by_some : (t : Bool) → nat_le 1 l ≡ t → (l == cleaners_number) ≡ false → ((r : Role) × Owns l r) ⊎ ((r : Role) → Owns l r → ⊥)
      by_some true fact other = by_most (nat_le l e.script.setup.clients) refl other fact
      by_some false fact other = inr (none_zero other fact)

      by_cleaner : (t : Bool) → (l == cleaners_number) ≡ t → ((r : Role) × Owns l r) ⊎ ((r : Role) → Owns l r → ⊥)
      by_cleaner true fact = inl (OfCleaner, (tt, refl, sym (eqb-true l cleaners_number fact)))
      by_cleaner false fact = by_some (nat_le 1 l) refl fact

  -- so it has all that it needs of logs, where each log is known
  pub of_logs : (count : ℕ) (k : Books) (f : Filed) → AllKnown count k f → NothingElse k f → OfLogs count k f
  of_logs count k f all else_ = record {
    books = record {
      end = λ l some limit. end l some limit (whose l);
      rows = λ l q some limit from to. rows l q from to (whose l);
    };
    lined = λ r there keeps. (all r there keeps).known.line;
    alone = λ l none. else_.head l (λ r owns. none r owns.0 owns.1 owns.2);
    tells = λ l q from to. tells l q from to (whose l);
    flew = λ r there keeps. (all r there keeps).known.flew;
    kind = λ r there keeps. (all r there keeps).kind;
  }
    where
      end : (l : ℕ) → 0 < l → l ≤ block_logs → ((r : Role) × Owns l r) ⊎ ((r : Role) → Owns l r → ⊥) → k.end l ≡ f.head l
      end l some limit (inl (r, (there, keeps, fact))) = subst (λ x. k.end x ≡ f.head x) fact (all r there keeps).known.books.end
      end l some limit (inr none) = else_.end l some limit none ∙ sym (else_.head l none)

      rows : (l q : ℕ) → 0 < q → q ≤ f.head l → ((r : Role) × Owns l r) ⊎ ((r : Role) → Owns l r → ⊥) → k.rows l q ≡ rows_told (f.segment l q).items
      rows l q from to (inl (r, (there, keeps, fact))) =
          subst (λ x. q ≤ f.head x → k.rows x q ≡ rows_told (f.segment x q).items) fact ((all r there keeps).known.books.rows q from) to
      rows l q from to (inr none) = (let z = else_.head l none in absurd (omega arith))

      tells : (l q : ℕ) → 0 < q → q ≤ f.head l → ((r : Role) × Owns l r) ⊎ ((r : Role) → Owns l r → ⊥) → TellsOnce (f.segment l q)
      tells l q from to (inl (r, (there, keeps, fact))) =
          subst (λ x. q ≤ f.head x → TellsOnce (f.segment x q)) fact ((all r there keeps).tells q from) to
      tells l q from to (inr none) = (let z = else_.head l none in absurd (omega arith))

  -- ---- the log of one that is left as it was

  pub left_flight : Below → (count : ℕ) (r : Role) (there : There logged part r)
      → IsLeft ((lines r there).scene count).net ((lines r there).scene (suc count)).net
      → last_flight (then_on ((lines r there).stands count).moment.run ((lines r there).goes count)) ≡ last_flight ((lines r there).stands count).moment.run
  left_flight laws count r there left =
      flight_left laws.reopenings.flights.others_leave_flights (setting base e r) _ _ _ ((lines r there).stands count).moment.run ((lines r there).goes count) left

  pub left_after : Below → (count : ℕ) (k m : Books) (f h : Filed) (r : Role) (there : There logged part r)
      → IsLeft ((lines r there).scene count).net ((lines r there).scene (suc count)).net → SameLog k m (log_by r) → IsSameLog (log_by r) f h
      → KnownAt count k f r there
      → KnownAt (suc count) m h r there
  left_after laws count k m f h r there left books filed fact =
      subst (λ x. OwnAfter (WritesKind r) (log_by r) x m h) (sym ((lines r there).joined count)) (record {
        known = stays_known (setting base e r) (log_by r) _ _ ((lines r there).stands count).moment ((lines r there).goes count) k m f h fact.known
            (laws.lines.lines_stay (log_by r) _ _ f h left.filed left.flown filed fact.known.line) (left_flight laws count r there left) books filed;
        tells = tells_same (log_by r) f h filed fact.tells;
        kind = subst (λ (y : Option FlightState). IfSome y (λ x. WritesKind r x.segment)) (sym (left_flight laws count r there left)) fact.kind;
      })
