-- What is done to a shelf leaves what it holds, unless its disk is lost or the segment is deleted.
use Rattle.std.proofs.Common.{◌≡◌, ℕ, ◌+◌, ◌==◌, ◌<◌, ◌≤◌, ◌⊎◌, Bool, true, false, cond, is_some, min, Option, Some, None, refl, sym, ap, subst, ◌∙◌, inl, inr, arith}
use Rattle.xfs_base.specs.declared.fragment.Fragment.{Fragment}
use Rattle.xfs_base.specs.declared.segment.LogId.{LogId}
use Rattle.xfs_base.specs.declared.segment.Pass.{Pass}
use Rattle.xfs_base.specs.declared.segment.SegName.{SegName}
use Rattle.xfs_base.specs.Limits.{u32_end}
use Rattle.xfs_base.specs.Segments.{pass_cmp}
use Rattle.xfs_base.specs.Stamps.{is_greater}
use Rattle.xfs_base.proofs.Booleans.{contrary, by_test, equal_itself}
use Rattle.std.specs.BTreeMap.{insert_entry}
use Rattle.fragment_store.specs.ShelfState.{ShelfState, same_name, log_cmp, held_at, is_held, is_marked, fence_of}
use Rattle.fragment_store.specs.Calls.{with_fragment, shelf_store, on_fence, on_delete}
use Rattle.xfs_base.proofs.SegmentNames.{one_name}
use Rattle.fragment_store.proofs.Tables.{held-with, held-without}
use Rattle.log_protocol.specs.Tables.{In}
use Rattle.log_tie.specs.Setting.{Setting}
use Rattle.log_tie.specs.Shelves.{Deed, is_of_log, is_stored, shelf_after}
use Rattle.log_tie.specs.Shelves.Deed.{Stores, Fetches, Fences, Deletes, Fills, Loses}
use Rattle.log_law.specs.Net.{Net}
use Rattle.log_law.specs.Net.Packet.{DeleteSent}
use Rattle.log_law.specs.Events.{CameToServer}

-- the shelf went on: its generation doesn't fall, and within one what it holds of the log stays unless a Delete of it was sent
pub record ShelfOn (g : Setting) (n : Net) (s t : ShelfState) : Type 0 where
  pub up : s.generation ≤ t.generation
  pub holds : (name : SegName) → name.log ≡ g.log → is_held s name ≡ true
      → (is_held t name ≡ true) ⊎ ((s.generation < t.generation) ⊎ In (DeleteSent name) n.sent)

pub shelf_same : (g : Setting) (n : Net) (s : ShelfState) → ShelfOn g n s s
shelf_same g n s = record { up = omega arith; holds = λ name own fact. inl fact }

pub none_found : (o : Option Fragment) → is_some o ≡ false → o ≡ None
none_found None e = refl
none_found (Some f) e = contrary (sym e)

pub found_too : (t : Bool) (f : Fragment) (o : Option Fragment) → is_some o ≡ true → is_some (cond t (Some f) o) ≡ true
found_too true f o fact = refl
found_too false f o fact = fact

pub less_min : (a b : ℕ) → a < b → a < min (a + 1) b
less_min a b less = omega arith

pub at_most : (a b : ℕ) → a < b → a ≤ b
at_most a b less = omega arith

kept_on : (g : Setting) (n : Net) (s : ShelfState) (f : Fragment) → ShelfOn g n s (shelf_store s f)
kept_on g n s f = by_test (ShelfOn g n s) (is_held s f.meta.name) s (record s { held = with_fragment f s.held }) (λ e. shelf_same g n s) (λ e. record {
  up = omega arith;
  holds = λ name own fact. inl
      (ap is_some (held-with f s.held name (none_found (held_at s.held f.meta.name) e)) ∙ found_too (same_name name f.meta.name) f (held_at s.held name) fact);
})

pub fence_on : (g : Setting) (n : Net) (s : ShelfState) (log : LogId) (pass : Pass) → ShelfOn g n s (on_fence s log pass)
fence_on g n s log pass =
    by_test (ShelfOn g n s) (is_greater (pass_cmp pass (fence_of s.fences log))) (record s { fences = insert_entry log_cmp s.fences log pass }) s
    (λ e. record { up = omega arith; holds = λ name own fact. inl fact }) (λ e. shelf_same g n s)

delete_on : (g : Setting) (n : Net) (s : ShelfState) (name : SegName) → (is_of_log g name ≡ true → In (DeleteSent name) n.sent)
    → ShelfOn g n s (on_delete s name)
delete_on g n s name came = record { up = omega arith; holds = holds }
  where
    holds : (q : SegName) → q.log ≡ g.log → is_held s q ≡ true
        → (is_held (on_delete s name) q ≡ true) ⊎ ((s.generation < s.generation) ⊎ In (DeleteSent q) n.sent)
    holds q own fact = by (same_name name q) refl
      where
        by : (t : Bool) → same_name name q ≡ t → (is_held (on_delete s name) q ≡ true) ⊎ ((s.generation < s.generation) ⊎ In (DeleteSent q) n.sent)
        by true e =
            let same : name ≡ q = one_name name q e in
            let of : is_of_log g name ≡ true = ap (is_of_log g) same ∙ (ap (λ (l : LogId). l.0 == g.log.0) own ∙ equal_itself g.log.0) in
            inr (inr (subst (λ z. In (DeleteSent z) n.sent) same (came of)))
        by false e = inl (ap is_some (held-without name s.held q ∙ ap (λ t. cond t None (held_at s.held q)) e) ∙ fact)

pub deed_on : (g : Setting) (n : Net) (v : ℕ) (deed : Deed) → CameToServer g n v deed → ShelfOn g n (n.shelves v) (shelf_after g (n.shelves v) deed)
deed_on g n v (Stores f generation) came =
    by_test (ShelfOn g n (n.shelves v)) (is_stored (n.shelves v) f generation) (shelf_store (n.shelves v) f) (n.shelves v) (λ e. kept_on g n (n.shelves v) f)
    (λ e. shelf_same g n (n.shelves v))
deed_on g n v (Fetches name) came = shelf_same g n (n.shelves v)
deed_on g n v (Fences inc) came = fence_on g n (n.shelves v) g.log (record { inc = inc; att = 0 })
deed_on g n v (Deletes name) came = delete_on g n (n.shelves v) name came
deed_on g n v (Fills f) came =
    by_test (ShelfOn g n (n.shelves v)) (is_marked (n.shelves v).marks f.meta.name) (n.shelves v) (shelf_store (n.shelves v) f) (λ e. shelf_same g n (n.shelves v))
    (λ e. kept_on g n (n.shelves v) f)
deed_on g n v Loses came =
    let less : (n.shelves v).generation < min ((n.shelves v).generation + 1) u32_end = less_min (n.shelves v).generation u32_end came in
    record { up = at_most _ _ less; holds = λ name own fact. inr (inl less) }
