-- What a manager answers the cleaner: what is live is a filed row, and a Dead is a beat.
use Rattle.std.proofs.Common.{◌≡◌, ℕ, zero, suc, ◌<◌, ◌==◌, ◌&&◌, Bool, true, false, cond, List, [], ◌∷◌, Some, None, refl, sym, ap, subst, ◌∙◌, arith}
use Rattle.std.specs.Ordering.{is_eq}
use Rattle.std.proofs.lemmas.Bool.{false≢true}
use Rattle.std.proofs.lemmas.Bool.Decides.{nat_tests}
use Rattle.std.proofs.lemmas.Cmp.{eq_by_cmp_equiv}
use Rattle.xfs_base.specs.declared.block.BlockId.{BlockId}
use Rattle.xfs_base.specs.declared.entry.Entry.{Entry}
use Rattle.xfs_base.specs.declared.entry.Place.{Place}
use Rattle.xfs_base.specs.Segments.{seg_cmp}
use Rattle.xfs_base.proofs.Booleans.{by_test}
use Rattle.xfs_base.proofs.Orders.{seg_cmp_total}
use Rattle.token_manager.specs.declared.output.Out.{Out}
use Rattle.token_manager.specs.declared.output.Out.TheVariants.{Live, Dead}
use Rattle.token_manager.specs.Transition.{entry_at, is_place}
use Rattle.log_protocol.specs.IndexState as index
use Rattle.log_protocol.proofs.IndexInduction.{index_is_join_always, index_in_bounds_always}
use Rattle.index_tie.specs.Filed.{Names}
use Rattle.headline.specs.Filed.{Filed, row_at}
use Rattle.index_tie.specs.Cleaning.{IsRow, LiveIsFiled, MovesAreCopies, DeadsAreBeats}
use Rattle.index_tie.proofs.Rows.{row_versioned}

-- an entry that lies somewhere is of some version
placed_row : (b : BlockId) (f : Filed) (entry : Entry) (named : index.Entry) (place : Place) → Names b f entry named → is_place entry.place place ≡ true
    → IsRow b f entry
placed_row b f entry named place n fact = by entry.ver refl
  where
    by : (v : ℕ) → entry.ver ≡ v → IsRow b f entry
    by zero none = absurd (false≢true (sym (ap (λ (e : Entry). is_place e.place place) (n.none none)) ∙ fact))
    by (suc v) some = record { log = named.log; seq = named.seq; is_row = n.row (omega arith); some = omega arith }

abbrev live_of : Out → Entry → Entry
live_of (Live e) other = e
live_of out other = other

abbrev first_of_outs : List Out → Out
first_of_outs [] = Dead
first_of_outs (o ∷ os) = o

pub live_is_filed : LiveIsFiled
live_is_filed b f w s place entry m =
    by_test (λ (o : Out). (o ∷ []) ≡ (Live entry ∷ []) → IsRow b f entry) (is_place (entry_at s b).place place) (Live (entry_at s b)) Dead
    (λ fact says.
    let same : entry_at s b ≡ entry = ap (λ os. live_of (first_of_outs os) (entry_at s b)) says in
    subst (IsRow b f) same (placed_row b f (entry_at s b) (w.index s.epoch) place m.index fact))
    (λ _ says. absurd (dead_or_live says))
  where
    dead_or_live : (Dead ∷ []) ≡ (Live entry ∷ []) → ⊥
    dead_or_live says = absurd (cc)

pub moves_are_copies : MovesAreCopies
moves_are_copies b f entry said r version hop = record {
  log = r.log;
  seq = r.seq;
  version = version ∙ ap (λ (e : Entry). e.ver) r.is_row;
  hop = let h = ap (λ (e : Entry). e.hop) r.is_row in hop ∙ (omega arith);
}

-- a place is itself
same_place : (place : Place) → is_place (Some place) place ≡ true
same_place place =
    let name = (eq_by_cmp_equiv seg_cmp_total).refl place.seg.name in
    both (is_eq (seg_cmp place.seg.name place.seg.name)) (place.seg.group == place.seg.group) (place.item == place.item) name (grind (arith, nat_tests))
    (grind (arith, nat_tests))
  where
    both : (x y z : Bool) → x ≡ true → y ≡ true → z ≡ true → (x && y && z) ≡ true
    both true true true _ _ _ = refl
    both false y z h _ _ = absurd (cc)
    both true false z _ h _ = absurd (cc)
    both true true false _ _ h = absurd (cc)

pub deads_are_beats : DeadsAreBeats
deads_are_beats b f w s place d l q reached filed tells m lies kept_by below says =
    let e = s.epoch in
    let named = w.index e in
    let bounds = index_in_bounds_always w reached in
    let joins = (index_is_join_always w reached).each e m.active in
    let some : 0 < (row_at f b l q).ver = some_version (row_at f b l q).ver refl in
    let version = tells.version l q in
    let rises = bounds.floor_rises d e l kept_by in
    let covered = bounds.active_covered e l m.active in
    record {
      on = m.active;
      kept_by = kept_by;
      below = below;
      some = omega arith;
      elsewhere = λ same_log same_seq.
          let at_least = joins.newest l q (omega arith) in
          let is_version = m.index.version in
          let it : entry_at s b ≡ row_at f b l q = m.index.row (omega arith) ∙ ap (λ k. row_at f b k named.seq) same_log ∙ ap (row_at f b l) same_seq in
          let here : is_place (entry_at s b).place place ≡ true =
          ap (λ (x : Entry). is_place x.place place) it ∙ ap (λ o. is_place o place) lies ∙ same_place place in
          live_or_dead (sym (ap (λ t. (cond t (Live (entry_at s b)) Dead) ∷ []) here) ∙ says);
    }
  where
    some_version : (v : ℕ) → (row_at f b l q).ver ≡ v → 0 < (row_at f b l q).ver
    some_version zero none = absurd (placed (sym (ap (λ (x : Entry). x.place) (row_versioned b f l q filed none)) ∙ lies))
      where
        placed : None ≡ Some place → ⊥
        placed h = absurd (cc)
    some_version (suc v) fact = omega arith

    live_or_dead : (Live (entry_at s b) ∷ []) ≡ (Dead ∷ []) → ⊥
    live_or_dead h = absurd (cc)
