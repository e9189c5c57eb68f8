-- Clients that gave a block up, whole or but for a copy: what each knows then, and that it is the same to them whether another client changed before or after.
use Rattle.std.proofs.Common.{◌≡◌, ℕ, suc, ◌+◌, ◌≤◌, ◌==◌, ◌&&◌, ◌||◌, Bool, true, false, cond, None, List, [], ◌∷◌, length, refl, sym, ap, subst, ◌∙◌, arith}
use Rattle.std.specs.List.{AllByRecursion, list_any}
use Rattle.std.proofs.lemmas.Bool.{false≢true}
use Rattle.std.proofs.lemmas.Bool.Decides.{nat_tests}
use Rattle.token_client.proofs.Tables.{InOrder, held_of-put_itself, in_order-put}
use Rattle.token_client.specs.declared.held.Held.{Held}
use Rattle.token_client.specs.Held.{give_up as given_held}
use Rattle.xfs_base.specs.declared.token.Mode.TheVariants.{Copy, Nothing}
use Rattle.xfs_base.specs.Modes.{is_held}
use Rattle.token_client.specs.State.{held_of}
use Rattle.version_model.specs.declared.work.Work.{Work}
use Rattle.xfs_base.proofs.BlockOrder.{same_block_exact}
use Rattle.xfs_base.specs.Blocks.{same_block}
use Rattle.xfs_base.specs.declared.block.BlockId.{BlockId}
use Rattle.xfs_base.specs.declared.node.NodeId.{NodeId}
use Rattle.xfs_base.specs.declared.setup.Setup.{Setup}
use Rattle.xfs_base.specs.declared.token.Stamp.{Stamp}
use Rattle.quiet_gives.specs.Recalls.{clients_gave, gives_held, gives_part}
use Rattle.quiet_law.proofs.Waiting.{not_the_block, other_held}
use Rattle.quiet_nodes.specs.Scene.{ClientPart, put_number}

abbrev pub is_among : ℕ → List ℕ → Bool
is_among e ds = list_any (λ d. e == d) ds

equal : (m n : ℕ) → (m == n) ≡ true → m ≡ n
equal m n h = grind (arith, nat_tests)

-- what holds of all of them holds of each
pub of_member : (P : ℕ → Type 0) (e : ℕ) (ds : List ℕ) → AllByRecursion P ds → is_among e ds ≡ true → P e
of_member P e [] all has = absurd (false≢true has)
of_member P e (d ∷ ds) all has =
    elim (e == d) as (λ t. (e == d) ≡ t → (t || is_among e ds) ≡ true → P e) [
      | true ↦ λ same _. subst P (sym (equal e d same)) all.0
      | false ↦ λ _ rest. of_member P e ds all.1 rest
    ] refl has

-- what is given up twice is given up under the later stamp
given_twice : (keep : Bool) (h : Held) (a c : Stamp) → given_held (given_held h a keep) c keep ≡ given_held h c keep
given_twice false h a c = refl
given_twice true h a c =
    elim (is_held h.mode) as
    (λ t. given_held (cond t (record h { mode = Copy; stamp = a; giving = None }) (record h { mode = Nothing; value = None; stamp = a; giving = None })) c true
    ≡ cond t (record h { mode = Copy; stamp = c; giving = None }) (record h { mode = Nothing; value = None; stamp = c; giving = None }))
    [ true ↦ refl | false ↦ refl ]

-- what giving up leaves as it was
pub given_field : {A : Type 0} (f : Held → A) (keep : Bool) (h : Held) (st : Stamp) → f (record h { mode = Copy; stamp = st; giving = None }) ≡ f h
    → f (record h { mode = Nothing; value = None; stamp = st; giving = None }) ≡ f h → f (given_held h st keep) ≡ f h
given_field f keep h st copy none =
    elim (keep && is_held h.mode) as
    (λ t. f (cond t (record h { mode = Copy; stamp = st; giving = None }) (record h { mode = Nothing; value = None; stamp = st; giving = None })) ≡ f h)
    [ true ↦ copy | false ↦ none ]

module _ (setup : Setup) (works : NodeId → List Work) (b : BlockId) (keep : Bool) where
  -- a client once it gave the block up, under a turn up to this one
  pub record HasGiven (turn : ℕ) (p q : ClientPart) : Type 0 where
    pub rest : q ≡ record p { blocks = q.blocks; cached = q.cached }
    pub others : (x : BlockId) → (x ≡ b → ⊥) → held_of q.blocks x ≡ held_of p.blocks x
    pub stamped : Stamp
    pub its : held_of q.blocks b ≡ given_held (held_of p.blocks b) stamped keep
    pub epoch : stamped.epoch ≤ 1
    pub before : stamped.turn ≤ turn
    pub in_order : InOrder p.blocks → InOrder q.blocks

  abbrev part : ℕ → ClientPart → ClientPart
  part = gives_part setup works b keep

  one_given : (turn : ℕ) (p : ClientPart) → HasGiven (turn + 1) p (part (turn + 1) p)
  one_given turn p = record {
    rest = refl;
    others = other_held b (gives_held setup works b keep (turn + 1) (held_of p.blocks b)) p.blocks;
    stamped = record { epoch = 1; turn = turn + 1 };
    its = held_of-put_itself b (gives_held setup works b keep (turn + 1) (held_of p.blocks b)) p.blocks;
    epoch = omega arith;
    before = omega arith;
    in_order = in_order-put b (gives_held setup works b keep (turn + 1) (held_of p.blocks b)) p.blocks;
  }

  later_given : (m n : ℕ) (p q : ClientPart) → m ≤ n → HasGiven m p q → HasGiven n p q
  later_given m n p q less g = record {
    rest = g.rest;
    others = g.others;
    stamped = g.stamped;
    its = g.its;
    epoch = g.epoch;
    before = (let before = g.before in omega arith);
    in_order = g.in_order;
  }

  -- what was given up is given up again
  both_given : (m n : ℕ) (p q r : ClientPart) → HasGiven m p q → HasGiven n q r → HasGiven n p r
  both_given m n p q r a c = record {
    rest = c.rest ∙ ap (λ (y : ClientPart). record y { blocks = r.blocks; cached = r.cached }) a.rest;
    others = λ x differs. c.others x differs ∙ a.others x differs;
    stamped = c.stamped;
    its = c.its ∙ ap (λ h. given_held h c.stamped keep) a.its ∙ given_twice keep (held_of p.blocks b) a.stamped c.stamped;
    epoch = c.epoch;
    before = c.before;
    in_order = λ sorted. c.in_order (a.in_order sorted);
  }

  -- ---- each of several

  abbrev next : (ℕ → ClientPart) → ℕ → ℕ → ℕ → ClientPart
  next clients turn d = put_number clients d (part (turn + 1) (clients d))

  next_is : (clients : ℕ → ClientPart) (turn d e : ℕ) → (e == d) ≡ true → HasGiven (turn + 1) (clients e) (next clients turn d e)
  next_is clients turn d e same =
      subst (HasGiven (turn + 1) (clients e)) (sym (ap (λ t. cond t (part (turn + 1) (clients d)) (clients e)) same))
      (subst (λ n. HasGiven (turn + 1) (clients e) (part (turn + 1) (clients n))) (equal e d same) (one_given turn (clients e)))

  next_not : (clients : ℕ → ClientPart) (turn d e : ℕ) → (e == d) ≡ false → next clients turn d e ≡ clients e
  next_not clients turn d e differs = ap (λ t. cond t (part (turn + 1) (clients d)) (clients e)) differs

  not_first : (e d : ℕ) (ds : List ℕ) → is_among e (d ∷ ds) ≡ false → (e == d) ≡ false
  not_first e d ds out = elim (e == d) as (λ t. (t || is_among e ds) ≡ false → t ≡ false) [ true ↦ λ h. h | false ↦ λ _. refl ] out

  not_later : (e d : ℕ) (ds : List ℕ) → is_among e (d ∷ ds) ≡ false → is_among e ds ≡ false
  not_later e d ds out = elim (e == d) as (λ t. (t || is_among e ds) ≡ false → is_among e ds ≡ false) [ true ↦ λ h. absurd (false≢true (sym h)) | false ↦ λ h. h ] out

  -- who isn't among them is as it was
  pub stays : (clients : ℕ → ClientPart) (turn : ℕ) (ds : List ℕ) (e : ℕ) → is_among e ds ≡ false → clients_gave setup works b keep clients turn ds e ≡ clients e
  stays clients turn [] e out = refl
  stays clients turn (d ∷ ds) e out =
      stays (next clients turn d) (turn + 1) ds e (not_later e d ds out) ∙ next_not clients turn d e (not_first e d ds out)

  -- who is has given the block up
  pub gives : (clients : ℕ → ClientPart) (turn : ℕ) (ds : List ℕ) (e : ℕ) → is_among e ds ≡ true
      → HasGiven (turn + length ds) (clients e) (clients_gave setup works b keep clients turn ds e)
  gives clients turn [] e has = absurd (false≢true has)
  gives clients turn (d ∷ ds) e has =
      later_given ((turn + 1) + length ds) (turn + suc (length ds)) (clients e) (clients_gave setup works b keep (next clients turn d) (turn + 1) ds e) (omega arith)
      (elim (is_among e ds) as (λ t. is_among e ds ≡ t → HasGiven ((turn + 1) + length ds) (clients e) (clients_gave setup works b keep (next clients turn d) (turn + 1) ds e)) [
        | true ↦ λ more. again more (gives (next clients turn d) (turn + 1) ds e more)
        | false ↦ λ out. subst (HasGiven ((turn + 1) + length ds) (clients e)) (sym (stays (next clients turn d) (turn + 1) ds e out))
            (later_given (turn + 1) ((turn + 1) + length ds) (clients e) (next clients turn d e) (omega arith) (next_is clients turn d e (first_one out)))
      ] refl)
    where
      last : ClientPart
      last = clients_gave setup works b keep (next clients turn d) (turn + 1) ds e

      first_one : is_among e ds ≡ false → (e == d) ≡ true
      first_one out = elim (e == d) as (λ t. (t || is_among e ds) ≡ true → t ≡ true) [ true ↦ λ _. refl | false ↦ λ h. absurd (false≢true (sym out ∙ h)) ] has

      again : is_among e ds ≡ true → HasGiven ((turn + 1) + length ds) (next clients turn d e) last → HasGiven ((turn + 1) + length ds) (clients e) last
      again more g =
          elim (e == d) as (λ t. (e == d) ≡ t → HasGiven ((turn + 1) + length ds) (clients e) last) [
            | true ↦ λ same. both_given (turn + 1) ((turn + 1) + length ds) (clients e) (next clients turn d e) last (next_is clients turn d e same) g
            | false ↦ λ differs. subst (λ p. HasGiven ((turn + 1) + length ds) p last) (next_not clients turn d e differs) g
          ] refl

  -- ---- beside another client

  pub gave_same : (f g : ℕ → ClientPart) → ((e : ℕ) → f e ≡ g e) → (turn : ℕ) (ds : List ℕ) (e : ℕ)
      → clients_gave setup works b keep f turn ds e ≡ clients_gave setup works b keep g turn ds e
  gave_same f g same turn [] e = same e
  gave_same f g same turn (d ∷ ds) e =
      gave_same (next f turn d) (next g turn d) (λ x. ap (λ p. cond (x == d) (part (turn + 1) p) (f x)) (same d) ∙ ap (λ p. cond (x == d) (part (turn + 1) (g d)) p) (same x))
      (turn + 1) ds e

  -- a client that isn't among them may have changed before
  pub gave_beside : (f : ℕ → ClientPart) (c : ℕ) (q : ClientPart) (turn : ℕ) (ds : List ℕ) → AllByRecursion (λ d. (d == c) ≡ false) ds → (e : ℕ)
      → clients_gave setup works b keep (put_number f c q) turn ds e ≡ put_number (clients_gave setup works b keep f turn ds) c q e
  gave_beside f c q turn [] apart e = refl
  gave_beside f c q turn (d ∷ ds) apart e =
      gave_same (next (put_number f c q) turn d) (put_number (next f turn d) c q) one (turn + 1) ds e
      ∙ gave_beside (next f turn d) c q (turn + 1) ds apart.1 e
    where
      one : (x : ℕ) → next (put_number f c q) turn d x ≡ put_number (next f turn d) c q x
      one x =
          ap (λ t. cond (x == d) (part (turn + 1) (cond t q (f d))) (cond (x == c) q (f x))) apart.0
          ∙ elim (x == d) as
          (λ t. (x == d) ≡ t → cond t (part (turn + 1) (f d)) (cond (x == c) q (f x)) ≡ cond (x == c) q (cond t (part (turn + 1) (f d)) (f x))) [
            | true ↦ λ same. sym (ap (λ t. cond t q (part (turn + 1) (f d))) (ap (λ n. n == c) (equal x d same) ∙ apart.0))
            | false ↦ λ _. refl
          ] refl

  -- what holds of the block given up, and of each other as it was, holds of all
  pub each_block : (Q : BlockId → Held → Type 0) (turn : ℕ) (p q : ClientPart) (g : HasGiven turn p q) → Q b (given_held (held_of p.blocks b) g.stamped keep)
      → ((x : BlockId) → (x ≡ b → ⊥) → Q x (held_of p.blocks x)) → (x : BlockId) → Q x (held_of q.blocks x)
  each_block Q turn p q g here other x =
      elim (same_block b x) as (λ t. same_block b x ≡ t → Q x (held_of q.blocks x)) [
        | true ↦ λ same. subst (λ y. Q y (held_of q.blocks y)) (sym (same_block_exact b x same)) (subst (Q b) (sym g.its) here)
        | false ↦ λ apart. subst (Q x) (sym (g.others x (not_the_block x b apart))) (other x (not_the_block x b apart))
      ] refl
