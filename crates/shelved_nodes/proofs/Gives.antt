-- The call that is seen from two shelves makes the one of the other, where one call did.
use Rattle.std.proofs.Common.{◌≡◌, ◌≢◌, ℕ, ◌+◌, ◌-◌, ◌≤◌, min, Bool, true, false, cond, ◌&&◌, ◌||◌, not, is_some, List, [], ◌∷◌, Option, Some, None, map, refl, sym, ap, subst, ◌∙◌, arith}
use Rattle.std.specs.List.{AllByRecursion}
use Rattle.std.specs.Prelude.{find}
use Rattle.std.specs.BTreeMap.{insert_entry}
use Rattle.std.specs.Ordering.{is_eq}
use Rattle.std.proofs.lemmas.Bool.{leb-true, ne_eqb}
use Rattle.std.proofs.lemmas.Cmp.{tied_itself}
use Rattle.disk_shelf.specs.declared.ask.Ask.{Ask}
use Rattle.disk_shelf.specs.declared.ask.Ask.TheVariants as asks
use Rattle.fragment_store.proofs.Entries.{none_held}
use Rattle.fragment_store.proofs.Tables.{fence_of-with, held-with, is_marked-with, log_cmp_total}
use Rattle.fragment_store.specs.Calls.{shelf_store, on_delete, on_fence, on_fill, on_lose, with_fragment}
use Rattle.fragment_store.specs.ShelfState.{ShelfState, fence_of, held_at, is_held, is_marked, log_cmp, same_name}
use Rattle.shelf_changes.specs.Changes.{ChangesByOne, MayMake, shelf_after, shelf_after_one}
use Rattle.shelf_changes.specs.Changes.ChangesByOne.{Calls, Rests}
use Rattle.shelf_changes.specs.Changes.MayMake.{Deletes, Fences, FillsByAbsence, FillsByFragment, Loses, Stores}
use Rattle.wire_msg.specs.declared.body.Body.{Body}
use Rattle.wire_msg.specs.declared.body.Body.TheVariants as body
use Rattle.wire_msg.specs.declared.packet.Do.{Do}
use Rattle.wire_msg.specs.declared.packet.Do.TheVariants.{Begin, Deliver, Tick}
use Rattle.node_base.specs.Room.{has_room}
use Rattle.node_moves.specs.server_moves.Moves.{Came}
use Rattle.wire_msg.specs.declared.packet.Packet.{Packet}
use Rattle.wire_msg.specs.declared.storage.Delete.{Delete}
use Rattle.wire_msg.specs.declared.storage.Fence.{Fence}
use Rattle.xfs_base.proofs.Alls.{all_weaker}
use Rattle.xfs_base.proofs.Booleans.{by_test, contrary, equal_itself}
use Rattle.xfs_base.proofs.Orders.{pass_cmp_total}
use Rattle.xfs_base.specs.Limits.{counter_room, u32_end}
use Rattle.xfs_base.proofs.SegmentNames.{same_itself}
use Rattle.xfs_base.specs.declared.fragment.FragMeta.{FragMeta}
use Rattle.xfs_base.specs.declared.fragment.Fragment.{Fragment}
use Rattle.xfs_base.specs.Segments.{pass_cmp, seg_cmp}
use Rattle.xfs_base.specs.Stamps.{is_greater}
use Rattle.shelved_nodes.specs.Asking.{StaysBy, StaysDeleted, asked, asked_by, fill_in, fill_listed, fill_of, only_where}

-- one more than a count that stands below the end by some room is another
below_end : (n end room : ℕ) → 1 ≤ room → room ≤ end → n ≤ end - room → n ≢ min (n + 1) end
below_end n end room some fits le e = omega (arith, some, fits, le, e)

-- ---- the one of two tests

only_new : (old x : ShelfState) (call : Ask) (a b : Bool) → a ≡ true → b ≡ false → x ≡ shelf_after old call → x ≡ shelf_after_one old (only_where (a && not b) call)
only_new old x call true false met unmet is = is
only_new old x call true true met unmet is = contrary (sym unmet)
only_new old x call false b met unmet is = contrary met

only_yes : (old x : ShelfState) (call : Ask) (a : Bool) → a ≡ true → x ≡ shelf_after old call → x ≡ shelf_after_one old (only_where a call)
only_yes old x call true met is = is
only_yes old x call false met is = contrary met

none_where : (call : Ask) (a : Bool) → a ≡ false → only_where a call ≡ None
none_where call true unmet = contrary (sym unmet)
none_where call false unmet = refl

never_both : (a : Bool) → (a && not a) ≡ false
never_both true = refl
never_both false = refl

-- ---- what is held and listed

all_held : (fs : List Fragment) → AllByRecursion (λ f. is_some (held_at fs f.meta.name) ≡ true) fs
all_held [] = tt
all_held (f ∷ fs) = (
  ap (λ b. is_some (cond b (Some f) (held_at fs f.meta.name))) (same_itself f.meta.name),
  all_weaker (λ g. is_some (held_at fs g.meta.name) ≡ true) (λ g. is_some (cond (same_name g.meta.name f.meta.name) (Some f) (held_at fs g.meta.name)) ≡ true)
      (λ g h. by (same_name g.meta.name f.meta.name) (held_at fs g.meta.name) h) fs (all_held fs),
)
  where
    by : (t : Bool) (o : Option Fragment) → is_some o ≡ true → is_some (cond t (Some f) o) ≡ true
    by true o h = refl
    by false o h = h

module _ (test : FragMeta → Bool) where
  none_found : (fs : List Fragment) → AllByRecursion (λ f. test f.meta ≡ false) fs → find test (map (λ f. f.meta) fs) ≡ None
  none_found [] none = refl
  none_found (f ∷ fs) none = ap (λ b. cond b (Some f.meta) (find test (map (λ g. g.meta) fs))) none.0 ∙ none_found fs none.1

  found_new : (f : Fragment) (fs : List Fragment) → test f.meta ≡ true → AllByRecursion (λ g. test g.meta ≡ false) fs
      → find test (map (λ g. g.meta) (with_fragment f fs)) ≡ Some f.meta
  found_new f [] met none = ap (λ b. cond b (Some f.meta) None) met
  found_new f (g ∷ gs) met none =
      by_test (λ (l : List Fragment). find test (map (λ h. h.meta) l) ≡ Some f.meta) (is_greater (seg_cmp f.meta.name g.meta.name)) (g ∷ with_fragment f gs)
      (f ∷ g ∷ gs)
      (λ t. ap (λ b. cond b (Some g.meta) (find test (map (λ h. h.meta) (with_fragment f gs)))) none.0 ∙ found_new f gs met none.1)
      (λ t. ap (λ b. cond b (Some f.meta) (find test (map (λ h. h.meta) (g ∷ gs)))) met)

module _ (old : ShelfState) where
  none_new : AllByRecursion (λ f. not (is_held old f.meta.name) ≡ false) old.held
  none_new = all_weaker (λ f. is_some (held_at old.held f.meta.name) ≡ true) (λ f. not (is_held old f.meta.name) ≡ false) (λ f h. ap not h) old.held (all_held old.held)

  abbrev Gives : Do → ShelfState → Type 0
  Gives what new = new ≡ shelf_after_one old (asked what old new)

  abbrev GivesBy : Body → ShelfState → Type 0
  GivesBy said new = new ≡ shelf_after_one old (asked_by said old new)

  -- ---- where nothing changed

  none_filled : fill_in old old ≡ None
  none_filled = ap (fill_listed old) (none_found (λ m. not (is_held old m.name)) old.held none_new)

  none_by : (said : Body) → asked_by said old old ≡ None
  none_by (body.Store m) = none_where (asks.Store m.fragment m.generation) _ (never_both (is_held old m.fragment.meta.name))
  none_by (body.Fence m) = none_where (asks.Fence m.log m.pass) _ (ap is_greater (tied_itself pass_cmp_total (fence_of old.fences m.log)))
  none_by (body.Delete m) = none_where (asks.Delete m.name) _ (never_both (is_marked old.marks m.name))
  none_by (body.Fragment m) = none_filled
  none_by (body.Missing m) = none_filled
  none_by _ = refl

  -- no call is seen
  pub none_asked : (what : Do) → asked what old old ≡ None
  none_asked Begin = none_where asks.Lose _ (ap not (equal_itself old.generation))
  none_asked (Deliver packet) = none_by packet.body
  none_asked Tick = refl

  rest_by_fill : old ≡ shelf_after_one old (fill_in old old)
  rest_by_fill = ap (shelf_after_one old) (sym none_filled)

  rest_by : (said : Body) → GivesBy said old
  rest_by said = ap (shelf_after_one old) (sym (none_by said))

  rest_gives : (what : Do) → Gives what old
  rest_gives what = ap (shelf_after_one old) (sym (none_asked what))

  -- ---- where a call was made

  abbrev more : Fragment → ShelfState
  more f = record old { held = with_fragment f old.held }

  is_kept : (f : Fragment) → is_held old f.meta.name ≡ false → more f ≡ shelf_store old f
  is_kept f e = ap (λ b. cond b old (more f)) (sym e)

  held_new : (f : Fragment) → is_held old f.meta.name ≡ false → held_at (with_fragment f old.held) f.meta.name ≡ Some f
  held_new f e =
      held-with f old.held f.meta.name (none_held (held_at old.held f.meta.name) e)
      ∙ ap (λ b. cond b (Some f) (held_at old.held f.meta.name)) (same_itself f.meta.name)

  store_gives : (f : Fragment) (generation : ℕ) → GivesBy (body.Store (record { fragment = f; generation = generation })) (shelf_store old f)
  store_gives f generation =
      by_test (GivesBy (body.Store (record { fragment = f; generation = generation }))) (is_held old f.meta.name) old (more f)
      (λ e. rest_by (body.Store (record { fragment = f; generation = generation })))
      (λ e. only_new old (more f) (asks.Store f generation) _ _ (ap is_some (held_new f e)) e (is_kept f e))

  fence_gives : (m : Fence) → GivesBy (body.Fence m) (on_fence old m.log m.pass)
  fence_gives m =
      let fenced : ShelfState = record old { fences = insert_entry log_cmp old.fences m.log m.pass } in
      by_test (GivesBy (body.Fence m)) (is_greater (pass_cmp m.pass (fence_of old.fences m.log))) fenced old
      (λ e. only_yes old fenced (asks.Fence m.log m.pass) _
      (ap (λ p. is_greater (pass_cmp p (fence_of old.fences m.log))) (fence_of-with old.fences m.log m.pass m.log
      ∙ ap (λ b. cond b m.pass (fence_of old.fences m.log)) (ap is_eq (tied_itself log_cmp_total m.log)))
      ∙ e)
      (ap (λ b. cond b fenced old) (sym e)))
      (λ e. rest_by (body.Fence m))

  delete_gives : (m : Delete) → StaysBy (body.Delete m) old → GivesBy (body.Delete m) (on_delete old m.name)
  delete_gives m stays = by (is_marked old.marks m.name) refl
    where
      by : (t : Bool) → is_marked old.marks m.name ≡ t → GivesBy (body.Delete m) (on_delete old m.name)
      by true e = subst (GivesBy (body.Delete m)) (sym (stays e)) (rest_by (body.Delete m))
      by false e =
          only_new old (on_delete old m.name) (asks.Delete m.name) _ _
          (is_marked-with old.marks m.name m.name ∙ ap (λ b. b || is_marked old.marks m.name) (same_itself m.name)) e refl

  fill_gives : (f : Fragment) → on_fill old f ≡ shelf_after_one old (fill_in old (on_fill old f))
  fill_gives f = by (is_marked old.marks f.meta.name) (is_held old f.meta.name) refl refl
    where
      filled : (t u : Bool) → is_marked old.marks f.meta.name ≡ t → is_held old f.meta.name ≡ u → on_fill old f ≡ cond t old (cond u old (more f))
      filled t u e g = ap (λ b. cond b old (shelf_store old f)) e ∙ ap (λ b. cond t old (cond b old (more f))) g

      seen : is_held old f.meta.name ≡ false → fill_in old (more f) ≡ Some (asks.Fill f)
      seen g =
          ap (fill_listed (more f)) (found_new (λ m. not (is_held old m.name)) f old.held (ap not g) none_new) ∙ ap fill_of (held_new f g)

      by : (t u : Bool) → is_marked old.marks f.meta.name ≡ t → is_held old f.meta.name ≡ u → on_fill old f ≡ shelf_after_one old (fill_in old (on_fill old f))
      by true u e g = subst (λ x. x ≡ shelf_after_one old (fill_in old x)) (sym (filled true u e g)) rest_by_fill
      by false true e g = subst (λ x. x ≡ shelf_after_one old (fill_in old x)) (sym (filled false true e g)) rest_by_fill
      by false false e g =
          subst (λ x. x ≡ shelf_after_one old (fill_in old x)) (sym (filled false false e g))
          (sym (filled false false e g) ∙ ap (shelf_after_one old) (sym (seen g)))

  loss_gives : has_room old.generation ≡ true → Gives Begin (on_lose old)
  loss_gives room = only_yes old (on_lose old) asks.Lose _ (ap not (ne_eqb old.generation _ (below_end old.generation u32_end counter_room (leb-true _ _ refl) (leb-true _ _ refl) (leb-true _ _ room)))) refl

  -- ---- whatever the call

  by_came : (what : Do) (packet : Packet) (said : Body) (new : ShelfState) → Came what packet said → GivesBy said new → Gives what new
  by_came what packet said new came gives =
      gives ∙ ap (λ b. shelf_after_one old (asked_by b old new)) (sym came.says) ∙ ap (λ w. shelf_after_one old (asked w old new)) (sym came.event)

  stays_by : (what : Do) (packet : Packet) (said : Body) → Came what packet said → StaysDeleted what old → StaysBy said old
  stays_by what packet said came stays = subst (λ b. StaysBy b old) came.says (subst (λ w. StaysDeleted w old) came.event stays)

  call_gives : (what : Do) (call : Ask) → StaysDeleted what old → MayMake what old call → Gives what (shelf_after old call)
  call_gives what call stays (Stores packet m came taken) = by_came what packet (body.Store m) _ came (store_gives m.fragment m.generation)
  call_gives what call stays (Fences packet m came) = by_came what packet (body.Fence m) _ came (fence_gives m)
  call_gives what call stays (Deletes packet m came) =
      by_came what packet (body.Delete m) _ came (delete_gives m (stays_by what packet (body.Delete m) came stays))
  call_gives what call stays (FillsByFragment packet m f came) = by_came what packet (body.Fragment m) _ came (fill_gives f)
  call_gives what call stays (FillsByAbsence packet m f came) = by_came what packet (body.Missing m) _ came (fill_gives f)
  call_gives what call stays (Loses event room) = subst (λ w. Gives w (on_lose old)) (sym event) (loss_gives room)

pub asked_gives : (what : Do) (old new : ShelfState) → StaysDeleted what old → ChangesByOne what old new → new ≡ shelf_after_one old (asked what old new)
asked_gives what old new stays (Rests same) = subst (Gives old what) (sym same) (rest_gives old what)
asked_gives what old new stays (Calls call may is) = subst (Gives old what) (sym is) (call_gives old what call stays may)
