-- Dead: what a manager answered Dead it never names again; and what the cleaner counted, no later manager names, but where a newer version is filed.
-- Stands on Rows, Bounds and Joins.
use Rattle.std.proofs.Common.{◌≡◌, ℕ, ◌<◌, ◌≤◌, ◌⊎◌, inl, inr, ap, sym, ◌∙◌, arith}
use Rattle.std.proofs.Math.Nat.{eq-or-lt_of_le}
use Rattle.std.proofs.lemmas.Bool.Decides.{nat_tests}
use Rattle.log_protocol.proofs.IndexPlaces.{its, not_named, named_beats, copied}
use Rattle.log_protocol.specs.IndexState.{Entry, IndexState, new_block}
use Rattle.log_protocol.specs.IndexSteps.{CanMerge, CanCount, copies, IndexStep}
use Rattle.log_protocol.specs.IndexSteps.IndexStep.{Files, Copies, Merges, Activates, Promises, Beats, Counts}
use Rattle.log_protocol.proofs.IndexRows.{IndexRows}
use Rattle.log_protocol.proofs.IndexBounds.{IndexBounds}
use Rattle.log_protocol.proofs.IndexJoins.{IndexJoins}

pub record IndexDead (w : IndexState) : Type 0 where
  -- an active manager's epoch is promised by the cleaner
  pub active_promised : (e : ℕ) → w.active e ≡ 1 → e ≤ w.promised
  -- and it has applied what the cleaner's log held when the cleaner first promised it
  pub active_reported : (e : ℕ) → w.active e ≡ 1 → w.polled e ≤ w.applied e w.cleaner
  -- who answered Dead is active,
  pub told_active : (e l q : ℕ) → w.told e l q ≡ 1 → w.active e ≡ 1
  -- has applied the row,
  pub told_applied : (e l q : ℕ) → w.told e l q ≡ 1 → q ≤ w.applied e l
  -- which says something,
  pub told_some : (e l q : ℕ) → w.told e l q ≡ 1 → 0 < w.version l q
  -- and names another
  pub told_elsewhere : (e l q : ℕ) → w.told e l q ≡ 1 → (w.index e).log ≡ l → (w.index e).seq ≡ q → ⊥
  -- what is counted was told
  pub dead_told : (l q : ℕ) → 0 < w.dead_at l q → w.told (w.dead_at l q) l q ≡ 1
  -- a row of the cleaner's log beats it, unless a newer version is filed
  pub beater_filed : (l q : ℕ) → 0 < w.dead_at l q → w.joined.version ≤ w.version l q → w.beater l q ≤ w.head w.cleaner
  pub beater_version : (l q : ℕ) → 0 < w.dead_at l q → w.joined.version ≤ w.version l q → w.version w.cleaner (w.beater l q) ≡ w.version l q
  pub beater_hop : (l q : ℕ) → 0 < w.dead_at l q → w.joined.version ≤ w.version l q → w.hop l q ≤ w.hop w.cleaner (w.beater l q)
  pub beater_seq : (l q : ℕ) → 0 < w.dead_at l q → w.joined.version ≤ w.version l q → w.hop l q ≡ w.hop w.cleaner (w.beater l q) → w.beater l q < q
  -- and it was filed before the cleaner promised more
  pub beater_polled : (l q e : ℕ) → 0 < w.dead_at l q → w.joined.version ≤ w.version l q → w.dead_at l q < e → e ≤ w.promised → w.beater l q ≤ w.polled e

-- a merge leaves what was answered Dead unnamed
merged_same : (w : IndexState) (e : ℕ) (applied : ℕ → ℕ) (entry : Entry) → CanMerge w e applied entry → (l q : ℕ) → IndexRows w → IndexJoins w → IndexDead w
    → w.told e l q ≡ 1 → entry.log ≡ l → entry.seq ≡ q → ⊥
merged_same w e applied entry can l q rows joins dead told same_l same_q =
    let j = joins.each e can.on in
    let some = dead.told_some e l q told in
    let b = named_beats w (w.applied e) (w.index e) l q rows j (dead.told_applied e l q told) some (dead.told_elsewhere e l q told) in
    let v = b.version in
    let s = j.within (omega arith) in
    let r = can.rises (w.index e).log in
    let n = can.joins.newest (w.index e).log (w.index e).seq (omega arith) in
    let a = j.its_version (omega arith) in
    let h = j.its_hop (omega arith) in
    let p = its w applied entry l q can.joins same_l same_q (omega arith) in
    let c : w.version l q ≡ (w.index e).version = let z = p.0 in omega arith in
    let f = not_named w applied entry l q (w.index e).log (w.index e).seq can.joins (omega arith) some (a ∙ sym c) (let z = b.hop c in omega arith)
    (λ k. b.seq c (k ∙ h)) same_l same_q in
    f

-- what the counted Dead's manager names is a copy that beats the row, where no newer version is filed
record Beaten (w : IndexState) (l q b : ℕ) : Type 0 where
  pub filed : b ≤ w.head w.cleaner
  pub version : w.version w.cleaner b ≡ w.version l q
  pub hop : w.hop l q ≤ w.hop w.cleaner b
  pub seq : w.hop l q ≡ w.hop w.cleaner b → b < q

counted_beaten : (w : IndexState) (e l q : ℕ) → CanCount w e l q → IndexRows w → IndexBounds w → IndexJoins w → IndexDead w → w.joined.version ≤ w.version l q
    → Beaten w l q (w.index e).seq
counted_beaten w e l q can rows bounds joins dead highest =
    let on = dead.told_active e l q can.told in
    let j = joins.each e on in
    let some = dead.told_some e l q can.told in
    let b = named_beats w (w.applied e) (w.index e) l q rows j (dead.told_applied e l q can.told) some (dead.told_elsewhere e l q can.told) in
    let v = b.version in
    let s = j.within (omega arith) in
    let f = bounds.applied_filed e (w.index e).log in
    let n = rows.joined.newest (w.index e).log (w.index e).seq (omega arith) in
    let a = j.its_version (omega arith) in
    let h = j.its_hop (omega arith) in
    let same : w.version l q ≡ (w.index e).version = omega arith in
    let c : (w.index e).log ≡ w.cleaner = copied w (w.applied e) (w.index e) l q rows j some same b in
    let cv : w.version w.cleaner (w.index e).seq ≡ (w.index e).version = ap (λ z. w.version z (w.index e).seq) (sym c) ∙ a in
    let ch : w.hop w.cleaner (w.index e).seq ≡ (w.index e).hop = ap (λ z. w.hop z (w.index e).seq) (sym c) ∙ h in
    record {
      filed = let z = ap w.head c in omega arith;
      version = cv ∙ sym same;
      hop = let z = b.hop same in omega arith;
      seq = λ k. b.seq same (k ∙ ch);
    }

-- a copy leaves what is filed as it was, and the join rises
copies_version : (w : IndexState) (l q x y : ℕ) → y ≤ w.head x → (copies w l q).version x y ≡ w.version x y
copies_version w l q x y filed = grind (arith, nat_tests)

copies_hop : (w : IndexState) (l q x y : ℕ) → y ≤ w.head x → (copies w l q).hop x y ≡ w.hop x y
copies_hop w l q x y filed = grind (arith, nat_tests)

copies_head : (w : IndexState) (l q x : ℕ) → w.head x ≤ (copies w l q).head x
copies_head w l q x = grind (arith, nat_tests)

copies_top : (w : IndexState) (l q : ℕ) → w.joined.version ≤ (copies w l q).joined.version
copies_top w l q = grind (arith, nat_tests)

-- what was counted is filed
dead_filed : (w : IndexState) (l q : ℕ) → IndexBounds w → IndexDead w → 0 < w.dead_at l q → q ≤ w.head l
dead_filed w l q bounds dead counted = let a = dead.told_applied (w.dead_at l q) l q (dead.dead_told l q counted) in let b =
    bounds.applied_filed (w.dead_at l q) l in omega arith

pub step_keeps_index_dead : (w u : IndexState) → IndexStep w u → IndexRows w → IndexBounds w → IndexJoins w → IndexDead w → IndexDead u
step_keeps_index_dead w u (Files l version can) rows bounds joins dead = grind (arith, nat_tests)
step_keeps_index_dead w u (Copies l q can) rows bounds joins dead = record {
  active_promised = λ x0 k0. grind (arith, nat_tests, dead.active_promised x0);
  active_reported = λ x0 k0. grind (arith, nat_tests, dead.active_reported x0);
  told_active = λ x0 x1 x2 k0. grind (arith, nat_tests, dead.told_active x0 x1 x2);
  told_applied = λ x0 x1 x2 k0. grind (arith, nat_tests, dead.told_applied x0 x1 x2);
  told_some = λ x0 x1 x2 k0. grind (arith, nat_tests, dead.told_some x0 x1 x2);
  told_elsewhere = λ x0 x1 x2 k0 k1 k2. grind (arith, nat_tests, dead.told_elsewhere x0 x1 x2);
  dead_told = λ x0 x1 k0. grind (arith, nat_tests, dead.dead_told x0 x1);
  beater_filed = λ x0 x1 k0 k1. let m = dead_filed w x0 x1 bounds dead k0 in let e = copies_version w l q x0 x1 m in let t = copies_top w l q in let f =
      dead.beater_filed x0 x1 k0 (omega arith) in let h = copies_head w l q w.cleaner in omega arith;
  beater_version = λ x0 x1 k0 k1. let m = dead_filed w x0 x1 bounds dead k0 in let e = copies_version w l q x0 x1 m in let t = copies_top w l q in let f =
      dead.beater_filed x0 x1 k0 (omega arith) in let v = dead.beater_version x0 x1 k0 (omega arith) in let b =
      copies_version w l q w.cleaner (w.beater x0 x1) f in omega arith;
  beater_hop = λ x0 x1 k0 k1. let m = dead_filed w x0 x1 bounds dead k0 in let e = copies_version w l q x0 x1 m in let t = copies_top w l q in let c =
      copies_hop w l q x0 x1 m in let f = dead.beater_filed x0 x1 k0 (omega arith) in let v = dead.beater_hop x0 x1 k0 (omega arith) in let b =
      copies_hop w l q w.cleaner (w.beater x0 x1) f in omega arith;
  beater_seq = λ x0 x1 k0 k1 k2. let m = dead_filed w x0 x1 bounds dead k0 in let e = copies_version w l q x0 x1 m in let t = copies_top w l q in let c =
      copies_hop w l q x0 x1 m in let f = dead.beater_filed x0 x1 k0 (omega arith) in let b =
      copies_hop w l q w.cleaner (w.beater x0 x1) f in dead.beater_seq x0 x1 k0 (omega arith) (omega arith);
  beater_polled = λ x0 x1 x2 k0 k1 k2 k3. let m = dead_filed w x0 x1 bounds dead k0 in let e = copies_version w l q x0 x1 m in let t =
      copies_top w l q in dead.beater_polled x0 x1 x2 k0 (omega arith) k2 k3;
}
step_keeps_index_dead w u (Merges e applied entry can) rows bounds joins dead = record {
  active_promised = λ x0 k0. grind (arith, nat_tests, dead.active_promised x0);
  active_reported = λ x0 k0. grind (arith, nat_tests, dead.active_reported x0);
  told_active = λ x0 x1 x2 k0. grind (arith, nat_tests, dead.told_active x0 x1 x2);
  told_applied = λ x0 x1 x2 k0. grind (arith, nat_tests, dead.told_applied x0 x1 x2);
  told_some = λ x0 x1 x2 k0. grind (arith, nat_tests, dead.told_some x0 x1 x2);
  told_elsewhere = λ x0 x1 x2 k0 k1 k2. grind (arith, nat_tests, dead.told_elsewhere x0 x1 x2, merged_same w e applied entry can x1 x2 rows joins dead);
  dead_told = λ x0 x1 k0. grind (arith, nat_tests, dead.dead_told x0 x1);
  beater_filed = λ x0 x1 k0 k1. grind (arith, nat_tests, dead.beater_filed x0 x1);
  beater_version = λ x0 x1 k0 k1. grind (arith, nat_tests, dead.beater_version x0 x1);
  beater_hop = λ x0 x1 k0 k1. grind (arith, nat_tests, dead.beater_hop x0 x1);
  beater_seq = λ x0 x1 k0 k1 k2. grind (arith, nat_tests, dead.beater_seq x0 x1);
  beater_polled = λ x0 x1 x2 k0 k1 k2 k3. grind (arith, nat_tests, dead.beater_polled x0 x1 x2);
}
step_keeps_index_dead w u (Activates e applied entry can) rows bounds joins dead = record {
  active_promised = λ x0 k0. grind (arith, nat_tests, dead.active_promised x0);
  active_reported = λ x0 k0. grind (arith, nat_tests, dead.active_reported x0);
  told_active = λ x0 x1 x2 k0. grind (arith, nat_tests, dead.told_active x0 x1 x2);
  told_applied = λ x0 x1 x2 k0. grind (arith, nat_tests, dead.told_applied x0 x1 x2);
  told_some = λ x0 x1 x2 k0. grind (arith, nat_tests, dead.told_some x0 x1 x2);
  told_elsewhere = λ x0 x1 x2 k0 k1 k2. grind (arith, nat_tests, dead.told_elsewhere x0 x1 x2);
  dead_told = λ x0 x1 k0. grind (arith, nat_tests, dead.dead_told x0 x1);
  beater_filed = λ x0 x1 k0 k1. grind (arith, nat_tests, dead.beater_filed x0 x1);
  beater_version = λ x0 x1 k0 k1. grind (arith, nat_tests, dead.beater_version x0 x1);
  beater_hop = λ x0 x1 k0 k1. grind (arith, nat_tests, dead.beater_hop x0 x1);
  beater_seq = λ x0 x1 k0 k1 k2. grind (arith, nat_tests, dead.beater_seq x0 x1);
  beater_polled = λ x0 x1 x2 k0 k1 k2 k3. grind (arith, nat_tests, dead.beater_polled x0 x1 x2);
}
step_keeps_index_dead w u (Promises e can) rows bounds joins dead = grind (arith, nat_tests)
step_keeps_index_dead w u (Beats d e l q can) rows bounds joins dead = record {
  active_promised = λ x0 k0. grind (arith, nat_tests, dead.active_promised x0);
  active_reported = λ x0 k0. grind (arith, nat_tests, dead.active_reported x0);
  told_active = λ x0 x1 x2 k0. grind (arith, nat_tests, dead.told_active x0 x1 x2, can.on);
  told_applied = λ x0 x1 x2 k0. let a = bounds.floor_rises d e l can.kept_by in let f = bounds.active_covered e l can.on in let b =
      can.below in grind (arith, nat_tests, dead.told_applied x0 x1 x2);
  told_some = λ x0 x1 x2 k0. grind (arith, nat_tests, dead.told_some x0 x1 x2, can.some);
  told_elsewhere = λ x0 x1 x2 k0 k1 k2. grind (arith, nat_tests, dead.told_elsewhere x0 x1 x2, can.elsewhere);
  dead_told = λ x0 x1 k0. grind (arith, nat_tests, dead.dead_told x0 x1);
  beater_filed = λ x0 x1 k0 k1. grind (arith, nat_tests, dead.beater_filed x0 x1);
  beater_version = λ x0 x1 k0 k1. grind (arith, nat_tests, dead.beater_version x0 x1);
  beater_hop = λ x0 x1 k0 k1. grind (arith, nat_tests, dead.beater_hop x0 x1);
  beater_seq = λ x0 x1 k0 k1 k2. grind (arith, nat_tests, dead.beater_seq x0 x1);
  beater_polled = λ x0 x1 x2 k0 k1 k2 k3. grind (arith, nat_tests, dead.beater_polled x0 x1 x2);
}
step_keeps_index_dead w u (Counts e l q can) rows bounds joins dead = record {
  active_promised = λ x0 k0. grind (arith, nat_tests, dead.active_promised x0);
  active_reported = λ x0 k0. grind (arith, nat_tests, dead.active_reported x0);
  told_active = λ x0 x1 x2 k0. grind (arith, nat_tests, dead.told_active x0 x1 x2);
  told_applied = λ x0 x1 x2 k0. grind (arith, nat_tests, dead.told_applied x0 x1 x2);
  told_some = λ x0 x1 x2 k0. grind (arith, nat_tests, dead.told_some x0 x1 x2);
  told_elsewhere = λ x0 x1 x2 k0 k1 k2. grind (arith, nat_tests, dead.told_elsewhere x0 x1 x2);
  dead_told = λ x0 x1 k0. grind (arith, nat_tests, dead.dead_told x0 x1);
  beater_filed =
      λ x0 x1 k0 k1. grind
      (arith, nat_tests, dead.beater_filed x0 x1, λ (k : w.joined.version ≤ w.version l q). (counted_beaten w e l q can rows bounds joins dead k).filed);
  beater_version =
      λ x0 x1 k0 k1. grind
      (arith, nat_tests, dead.beater_version x0 x1, λ (k : w.joined.version ≤ w.version l q). (counted_beaten w e l q can rows bounds joins dead k).version);
  beater_hop = λ x0 x1 k0 k1. grind
      (arith, nat_tests, dead.beater_hop x0 x1, λ (k : w.joined.version ≤ w.version l q). (counted_beaten w e l q can rows bounds joins dead k).hop);
  beater_seq = λ x0 x1 k0 k1 k2. grind
      (arith, nat_tests, dead.beater_seq x0 x1, λ (k : w.joined.version ≤ w.version l q). (counted_beaten w e l q can rows bounds joins dead k).seq);
  beater_polled = λ x0 x1 x2 k0 k1 k2 k3. grind (arith, nat_tests, dead.beater_polled x0 x1 x2, can.latest);
}
step_keeps_index_dead w u step rows bounds joins dead = grind (arith, nat_tests)

pub new_block_index_dead : (cleaner : ℕ) → IndexDead (new_block cleaner)
new_block_index_dead cleaner = grind (arith, nat_tests)

-- who is active no earlier than the count names the row only where a newer version is filed
stays_not : (w : IndexState) (l q e : ℕ) → IndexJoins w → IndexDead w → 0 < w.dead_at l q → w.dead_at l q ≤ e → w.active e ≡ 1 → (w.index e).log ≡ l
    → (w.index e).seq ≡ q → w.joined.version ≤ w.version l q → ⊥
stays_not w l q e joins dead counted from on same_l same_q highest = go (eq-or-lt_of_le from)
  where
    told : w.told (w.dead_at l q) l q ≡ 1
    told = dead.dead_told l q counted

    go : (w.dead_at l q ≡ e) ⊎ (w.dead_at l q < e) → ⊥
    go (inl s) = dead.told_elsewhere e l q (ap (λ z. w.told z l q) (sym s) ∙ told) same_l same_q
    go (inr before) =
        let a = dead.beater_polled l q e counted highest before (dead.active_promised e on) in
        let b = dead.active_reported e on in
        not_named w (w.applied e) (w.index e) l q w.cleaner (w.beater l q) (joins.each e on) (omega arith) (dead.told_some (w.dead_at l q) l q told)
        (dead.beater_version l q counted highest) (dead.beater_hop l q counted highest) (dead.beater_seq l q counted highest) same_l same_q

pub stays : (w : IndexState) (l q e : ℕ) → IndexJoins w → IndexDead w → 0 < w.dead_at l q → w.dead_at l q ≤ e → w.active e ≡ 1 → (w.index e).log ≡ l
    → (w.index e).seq ≡ q → w.version l q < w.joined.version
stays w l q e joins dead counted from on same_l same_q = let n = stays_not w l q e joins dead counted from on same_l same_q in grind (arith)
