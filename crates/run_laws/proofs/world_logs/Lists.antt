-- Members of lists that grow, and what holds of all of a list.
use Rattle.std.proofs.Common.{◌≡◌, ℕ, zero, suc, List, [], ◌∷◌, ◌++◌, Some, map, slice_get, slice_set, sym, ap, subst, inl, inr}
use Rattle.std.specs.List.{AllByRecursion}
use Rattle.log_protocol.specs.Tables as tables
use Rattle.token_protocol.specs.Basics.{In}
use Rattle.wire_msg.specs.declared.packet.Packet.{Packet}
use Rattle.world_base.specs.Runs.{WasSent}

pub in_after : {X : Type 0} (xs ys : List X) (x : X) → In x ys → In x (xs ++ ys)
in_after [] ys x fact = fact
in_after (y ∷ xs) ys x fact = inr (in_after xs ys x fact)

pub in_before : {X : Type 0} (xs ys : List X) (x : X) → In x xs → In x (xs ++ ys)
in_before [] ys x fact = absurd fact
in_before (y ∷ xs) ys x (inl e) = inl e
in_before (y ∷ xs) ys x (inr fact) = inr (in_before xs ys x fact)

pub in_map : {X Y : Type 0} (f : X → Y) (xs : List X) (x : X) → In x xs → In (f x) (map f xs)
in_map f [] x fact = absurd fact
in_map f (y ∷ xs) x (inl e) = inl (ap f e)
in_map f (y ∷ xs) x (inr fact) = inr (in_map f xs x fact)

-- the two words for membership
pub in_listed : {X : Type 0} (xs : List X) (x : X) → tables.In x xs → In x xs
in_listed [] x fact = absurd fact
in_listed (y ∷ xs) x (inl e) = inl e
in_listed (y ∷ xs) x (inr fact) = inr (in_listed xs x fact)

pub in_was : (sent : List Packet) (p : Packet) → In p sent → WasSent sent p
in_was [] p h = absurd h
in_was (x ∷ sent) p (inl e) = (0, ap Some (sym e))
in_was (x ∷ sent) p (inr h) = (let w = in_was sent p h in (suc w.0, w.1))

-- what is at a place, and where another is put there
module _ {X : Type 0} (P : X → Type 0) where
  same_item : (y x : X) → Some y ≡ Some x → y ≡ x
  same_item y x e = cc

  pub all_at : (xs : List X) (place : ℕ) (x : X) → AllByRecursion P xs → slice_get xs place ≡ Some x → P x
  all_at [] place x all fact = absurd cc
  all_at (y ∷ xs) zero x all fact = subst P (same_item y x fact) all.0
  all_at (y ∷ xs) (suc place) x all fact = all_at xs place x all.1 fact

  pub all_set : (xs : List X) (place : ℕ) (y : X) → AllByRecursion P xs → P y → AllByRecursion P (slice_set xs place y)
  all_set [] place y all new = tt
  all_set (x ∷ xs) zero y all new = (new, all.1)
  all_set (x ∷ xs) (suc place) y all new = (all.0, all_set xs place y all.1 new)
