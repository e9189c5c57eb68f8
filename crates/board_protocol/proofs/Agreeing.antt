-- Of two chosen lists one is a prefix of the other, by the facts of elections alone: one induction on ballots.
use Rattle.std.proofs.Common.{ℕ, ◌≡◌, ◌<◌, ◌≤◌, ◌∙◌, zero, suc, List, length, arith, inl, inr, take, subst, sym, ap, ⊎_elim, ◌⊎◌}
use Rattle.board_protocol.specs.Basics.{Prefix}
use Rattle.board_protocol.specs.World.{World}
use Rattle.board_protocol.specs.Growth.{Grows}
use Rattle.board_protocol.specs.Laws.{Chosen, Agree}
use Rattle.board_protocol.proofs.Prefixes.{through, shorter, agrees, empty, compare, order}
use Rattle.board_protocol.proofs.Facts.{Standing, Voter, Elected, Electing}

-- Two boards of three and two boards of three share one.
meet : (i j a b : ℕ) → i < 3 → j < 3 → (i ≡ j → ⊥) → a < 3 → b < 3 → (a ≡ b → ⊥) → ((i ≡ a) ⊎ (i ≡ b)) ⊎ ((j ≡ a) ⊎ (j ≡ b))
meet i j a b i3 j3 ij a3 b3 ab = grind (arith, i3, j3, ij, a3, b3, ab)

module _ {C : Type 0} where
  -- Two boards accepted so much of a ballot's list.
  record Twice (w : World C) (b n : ℕ) : Type 0 where
    some : 0 < n
    one : ℕ
    other : ℕ
    one_board : one < 3
    other_board : other < 3
    apart : one ≡ other → ⊥
    one_accepted : n ≤ w.accepted one b
    other_accepted : n ≤ w.accepted other b

  -- What a voter of c accepted of a lower ballot is of c's source or below it, and of the source no more than c's leader began with.
  record Low (w : World C) (c source b n : ℕ) : Type 0 where
    least : b ≤ source
    at : b ≡ source → n ≤ w.base c

  low : (w : World C) (c source b n k : ℕ) → Voter w c source k → (0 < c → source < c) → b < c → 0 < n → n ≤ w.accepted k b → Low w c source b n
  low w c source b n k a below l some took = record {
    least = grind (arith, a.between b, l, some, took);
    at = λ e. grind (arith, a.at, e, below, l, took);
  }

  lowest : (w : World C) (c b n : ℕ) (e : Elected w c) → b < c → Twice w b n → Low w c e.source b n
  lowest w c b n e l t =
      let of = λ (k : ℕ) (a : Voter w c e.source k) (took : n ≤ w.accepted k b). low w c e.source b n k a e.below l t.some took in
      ⊎_elim
      (⊎_elim (λ s. of e.one e.one_voted (subst (λ k. n ≤ w.accepted k b) s t.one_accepted)) (λ s. of e.other e.other_voted (subst (λ k. n ≤ w.accepted k b) s t.one_accepted)))
      (⊎_elim (λ s. of e.one e.one_voted (subst (λ k. n ≤ w.accepted k b) s t.other_accepted)) (λ s. of e.other e.other_voted (subst (λ k. n ≤ w.accepted k b) s t.other_accepted)))
      (meet t.one t.other e.one e.other t.one_board t.other_board t.apart e.one_voted.board e.other_voted.board e.apart)

  -- A later leader began with all that two boards accepted of a ballot below its own, then or later.
  record Covers (w : World C) (c b n : ℕ) : Type 0 where
    base : n ≤ w.base c
    shared : take n (w.book c) ≡ take n (w.book b)

  covers : (w : World C) → Electing w → (m c : ℕ) → c < m → w.led c ≡ 1 → (b n : ℕ) → b < c → Twice w b n → Covers w c b n
  covers w a zero c bound led b n l t = absurd (omega arith)
  covers w a (suc m) c bound led b n l t =
      let e = a c led in
      let found = lowest w c b n e l t in
      let from_source = λ (enough : n ≤ w.base c). agrees n (w.base c) (w.book c) (w.book e.source) enough e.shared in
      ⊎_elim
      (λ (less : b < e.source).
      let before = covers w a m e.source (grind (arith, e.below, bound, l)) e.led b n less t in
      let enough : n ≤ w.base c = grind (arith, before.base, e.floor) in
      record { base = enough; shared = from_source enough ∙ before.shared })
      (⊎_elim
      (λ (equal : b ≡ e.source). record { base = found.at equal; shared = from_source (found.at equal) ∙ ap (λ d. take n (w.book d)) (sym equal) })
      (λ (more : e.source < b). absurd (grind (arith, found.least, more))))
      (compare b e.source)

  twice : (w : World C) (xs : List C) (x : Chosen w xs) → 0 < length xs → Twice w x.ballot (length xs)
  twice w xs x some = record {
    some = some;
    one = x.one;
    other = x.other;
    one_board = x.one_board;
    other_board = x.other_board;
    apart = x.apart;
    one_accepted = x.one_accepted;
    other_accepted = x.other_accepted;
  }

  chosen_led : (w : World C) (xs : List C) → Standing w → (x : Chosen w xs) → 0 < length xs → w.led x.ballot ≡ 1
  chosen_led w xs s x some = s.used x.one x.ballot (grind (arith, x.one_accepted, some))

  -- Of two chosen lists the shorter is a prefix of the longer.
  pub ordered : (w : World C) → Standing w → Electing w → (xs ys : List C) → Chosen w xs → Chosen w ys → length xs ≤ length ys → Prefix xs ys
  ordered w s a xs ys x y l =
      ⊎_elim
      (λ (some : 0 < length xs).
      let more : 0 < length ys = grind (arith, some, l) in
      ⊎_elim
      (λ (less : x.ballot < y.ballot).
      let c = covers w a (suc y.ballot) y.ballot (grind arith) (chosen_led w ys s y more) x.ballot (length xs) less (twice w xs x some) in
      shorter xs ys (w.book y.ballot) (c.shared ∙ x.listed) y.listed l)
      (⊎_elim
      (λ (equal : x.ballot ≡ y.ballot). shorter xs ys (w.book y.ballot) (ap (λ b. take (length xs) (w.book b)) (sym equal) ∙ x.listed) y.listed l)
      (λ (greater : y.ballot < x.ballot).
      let c = covers w a (suc x.ballot) x.ballot (grind arith) (chosen_led w xs s x some) y.ballot (length ys) greater (twice w ys y more) in
      shorter xs ys (w.book x.ballot) x.listed (c.shared ∙ y.listed) l))
      (compare x.ballot y.ballot))
      (λ none. ⊎_elim (λ (e : 0 ≡ length xs). empty xs ys (sym e)) (λ (k : length xs < 0). absurd (grind (arith, k))) none)
      (compare 0 (length xs))

  pub agree : (w : World C) → Standing w → Electing w → Agree w
  agree w s a xs ys x y = ⊎_elim (λ l. inl (ordered w s a xs ys x y l)) (λ l. inr (ordered w s a ys xs y x l)) (order (length xs) (length ys))

  -- What is chosen stays chosen.
  pub chosen_on : (w v : World C) (xs : List C) → Grows w v → Standing w → Chosen w xs → Chosen v xs
  chosen_on w v xs g s x = record {
    ballot = x.ballot;
    one = x.one;
    other = x.other;
    one_board = x.one_board;
    other_board = x.other_board;
    apart = x.apart;
    one_accepted = grind (arith, x.one_accepted, g.accepted x.one x.ballot);
    other_accepted = grind (arith, x.other_accepted, g.accepted x.other x.ballot);
    listed = ⊎_elim
        (λ (some : 0 < length xs). through xs (w.book x.ballot) (v.book x.ballot) x.listed (g.book x.ballot (chosen_led w xs s x some)))
        (λ none. ⊎_elim (λ (e : 0 ≡ length xs). empty xs (v.book x.ballot) (sym e)) (λ (k : length xs < 0). absurd (grind (arith, k))) none)
        (compare 0 (length xs));
  }
