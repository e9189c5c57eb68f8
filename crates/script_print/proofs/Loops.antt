-- Texts that are appended piece by piece.
use Rattle.std.proofs.Common.{◌≡◌, ℕ, List, [], ◌∷◌, ◌++◌, length, map, codes, refl, sym, ◌∙◌, ap, arith, append_assoc, append-nil}
use Rattle.std.specs.Fmt.{decimal}
use Rattle.xfs_base.specs.declared.setup.Setup.{Setup}
use Rattle.xfs_base.specs.declared.setup.GroupSetup.{GroupSetup}
use Rattle.script_text.specs.Words.{joined}
use Rattle.script_text.specs.Spelling.{slashed}
use Rattle.script_print.specs.Printing.{spaced, path_text, gives, group_line, cache_lines, acts_lines, setup_lines, ended}
use Rattle.script_print.proofs.Goings.{ended_join}

-- words with a space between each two, and each behind a space
pub joined_spaced : (w : List ℕ) (ws : List (List ℕ)) → joined 32 (w ∷ ws) ≡ w ++ spaced ws
joined_spaced w [] = sym (append-nil w)
joined_spaced w (v ∷ ws) = ap (λ x. w ++ 32 ∷ x) (joined_spaced v ws)

pub group_ended : (out a b new w v ns ms : List ℕ) → a ≡ out ++ v → v ≡ w → b ≡ a ++ spaced (map decimal ms) → ms ≡ ns → new ≡ b ++ 10 ∷ []
    → new ≡ out ++ (joined 32 (w ∷ map decimal ns) ++ 10 ∷ [])
group_ended out a b new w v ns ms e f g h i =
    let j : joined 32 (w ∷ map decimal ns) ≡ w ++ spaced (map decimal ns) = joined_spaced w (map decimal ns) in
    let k : new ≡ ((out ++ w) ++ spaced (map decimal ns)) ++ 10 ∷ [] = cc in
    k ∙ regroup out w (spaced (map decimal ns)) (10 ∷ []) ∙ ap (λ x. out ++ (x ++ 10 ∷ [])) (sym j)
  where
    regroup : (o w s r : List ℕ) → ((o ++ w) ++ s) ++ r ≡ o ++ ((w ++ s) ++ r)
    regroup o w s r = simp append_assoc

more_ended : (o a b : List ℕ) (xs ys : List (List ℕ)) → a ≡ o ++ ended xs → b ≡ a ++ ended ys → b ≡ o ++ ended (xs ++ ys)
more_ended o a b xs ys e f = f ∙ ap (λ x. x ++ ended ys) e ∙ append_assoc o (ended xs) (ended ys) ∙ ap (λ x. o ++ x) (sym (ended_join xs ys))

pub setup_ended : (s : Setup) (gs : List GroupSetup) (o a b c d e f g : List ℕ) → a ≡ o ++ ended (gives (codes "xfs") 1 ∷ [])
    → b ≡ a ++ ended (gives (codes "clients") s.clients ∷ []) → c ≡ b ++ ended (gives (codes "managers") s.managers ∷ [])
    → d ≡ c ++ ended (gives (codes "servers") s.servers ∷ []) → gs ≡ s.groups → e ≡ d ++ ended (map group_line gs) → f ≡ e ++ ended (cache_lines s.cache)
    → g ≡ f ++ ended (acts_lines s.acts) → g ≡ o ++ ended (setup_lines s)
setup_ended s gs o a b c d e f g p q r t u v w x =
    let l1 : List (List ℕ) = gives (codes "xfs") 1 ∷ [] in
    let l2 : List (List ℕ) = gives (codes "clients") s.clients ∷ [] in
    let l3 : List (List ℕ) = gives (codes "managers") s.managers ∷ [] in
    let l4 : List (List ℕ) = gives (codes "servers") s.servers ∷ [] in
    let m : List (List ℕ) = map group_line s.groups in
    let head : List (List ℕ) = ((l1 ++ l2) ++ l3) ++ l4 in
    let k2 = more_ended o a b l1 l2 p q in
    let k3 = more_ended o b c (l1 ++ l2) l3 k2 r in
    let k4 = more_ended o c d ((l1 ++ l2) ++ l3) l4 k3 t in
    let v2 : e ≡ d ++ ended m = v ∙ ap (λ y. d ++ ended (map group_line y)) u in
    let k5 = more_ended o d e head m k4 v2 in
    let k6 = more_ended o e f (head ++ m) (cache_lines s.cache) k5 w in
    let k7 = more_ended o f g ((head ++ m) ++ cache_lines s.cache) (acts_lines s.acts) k6 x in
    let n : ((head ++ m) ++ cache_lines s.cache) ++ acts_lines s.acts ≡ setup_lines s =
    ap (λ y. gives (codes "xfs") 1 ∷ gives (codes "clients") s.clients ∷ gives (codes "managers") s.managers ∷ gives (codes "servers") s.servers ∷ y)
    (append_assoc m (cache_lines s.cache) (acts_lines s.acts)) in
    k7 ∙ ap (λ y. o ++ ended y) n

-- a path is the slash alone where it has no name
pub no_path : (names : List (List ℕ)) → length names ≡ 0 → path_text names ≡ 47 ∷ []
no_path [] e = refl
no_path (name ∷ names) e = absurd (omega (arith, e))

pub some_path : (names : List (List ℕ)) → (length names ≡ 0 → ⊥) → path_text names ≡ slashed names
some_path [] h = absurd (h refl)
some_path (name ∷ names) h = refl
