-- The stamps that are given out over any inputs are those of the turns after the last, in order.
use Rattle.std.proofs.Common.{◌≡◌, ℕ, zero, suc, ◌+◌, List, [], ◌∷◌, ◌++◌, length, refl, sym, ap, ◌∙◌, arith, length-append}
use Rattle.xfs_base.specs.declared.token.Stamp.{Stamp}
use Rattle.slot_beliefs.specs.Recalls.{stamp}
use Rattle.token_manager.specs.declared.output.Out.{Out}
use Rattle.token_manager.specs.declared.output.Out.TheVariants.{Grant, Forward, Recall, Applied, Live, Dead}
use Rattle.token_manager.specs.declared.input.In.{In}
use Rattle.token_manager.specs.declared.input.In.TheVariants.{Want, Gave, Deltas, Check, Tick}
use Rattle.token_manager.specs.SlotState.{SlotState}
use Rattle.token_manager.specs.Transition.{transition}
use Rattle.token_manager.specs.Laws.{CountsTurns, IsNotTick, stamps_in, given_by, given_out, stamps_after}
use Rattle.token_manager.proofs.Turns.{takes-transition}

-- these stamps are those of the turns from one to another
record AreTurns (epoch turn last : ℕ) (stamps : List Stamp) : Type 0 where
  in_order : stamps ≡ stamps_after epoch turn (length stamps)
  upto : last ≡ turn + length stamps

no_turns : (epoch turn last : ℕ) → last ≡ turn → AreTurns epoch turn last []
no_turns epoch turn last fact = record { in_order = refl; upto = omega (arith, fact) }

one_turn : (epoch turn last : ℕ) (said : Stamp) (stamps : List Stamp) → said ≡ stamp epoch (turn + 1) → AreTurns epoch (turn + 1) last stamps
    → AreTurns epoch turn last (said ∷ stamps)
one_turn epoch turn last said stamps fact rest = record { in_order = λ i. fact i ∷ rest.in_order i; upto = omega (arith, rest.upto) }

are_counted : (epoch turn last : ℕ) (outs : List Out) → CountsTurns epoch turn outs last → AreTurns epoch turn last (stamps_in outs)
are_counted epoch turn last [] h = no_turns epoch turn last h
are_counted epoch turn last (Grant client block said inc req mode entry ∷ outs) h =
    one_turn epoch turn last said (stamps_in outs) h.0 (are_counted epoch (turn + 1) last outs h.1)
are_counted epoch turn last (Forward client block said to inc req ver ∷ outs) h =
    one_turn epoch turn last said (stamps_in outs) h.0 (are_counted epoch (turn + 1) last outs h.1)
are_counted epoch turn last (Recall client block said keep ∷ outs) h =
    one_turn epoch turn last said (stamps_in outs) h.0 (are_counted epoch (turn + 1) last outs h.1)
are_counted epoch turn last (Applied log upto ∷ outs) h = are_counted epoch turn last outs h
are_counted epoch turn last (Live entry ∷ outs) h = are_counted epoch turn last outs h
are_counted epoch turn last (Dead ∷ outs) h = are_counted epoch turn last outs h

after_both : (epoch turn n m : ℕ) → stamps_after epoch turn n ++ stamps_after epoch (turn + n) m ≡ stamps_after epoch turn (n + m)
after_both epoch turn zero m =
    let same : turn + 0 ≡ turn = omega arith in
    let none : m ≡ 0 + m = omega arith in
    ap (λ t. stamps_after epoch t m) same ∙ ap (stamps_after epoch turn) none
after_both epoch turn (suc n) m =
    let next : turn + suc n ≡ turn + 1 + n = omega arith in
    let more : suc (n + m) ≡ suc n + m = omega arith in
    ap (λ t. stamp epoch (turn + 1) ∷ (stamps_after epoch (turn + 1) n ++ stamps_after epoch t m)) next
    ∙ ap (λ ss. stamp epoch (turn + 1) ∷ ss) (after_both epoch (turn + 1) n m) ∙ ap (stamps_after epoch turn) more

both_turns : (epoch turn at : ℕ) (xs ys : List Stamp) → AreTurns epoch turn at xs → ys ≡ stamps_after epoch at (length ys)
    → xs ++ ys ≡ stamps_after epoch turn (length (xs ++ ys))
both_turns epoch turn at xs ys first rest =
    (λ i. first.in_order i ++ rest i) ∙ ap (λ t. stamps_after epoch turn (length xs) ++ stamps_after epoch t (length ys)) first.upto
    ∙ after_both epoch turn (length xs) (length ys) ∙ ap (stamps_after epoch turn) (sym (length-append xs ys))

-- the epoch stays, and the turns are given out
record GivesTurns (s : SlotState) (input : In) : Type 0 where
  epoch : (transition s input).state.epoch ≡ s.epoch
  turns : AreTurns s.epoch s.turn (transition s input).state.turn (given_by input (transition s input).outs)

gives_turns : (s : SlotState) (input : In) → IsNotTick input
    → AreTurns s.epoch s.turn (transition s input).state.turn (stamps_in (transition s input).outs)
gives_turns s input news = are_counted s.epoch s.turn (transition s input).state.turn (transition s input).outs (takes-transition s input news).1

gives : (s : SlotState) (input : In) → GivesTurns s input
gives s (Want want end) =
    let input : In = Want want end in record { epoch = (takes-transition s input tt).0; turns = gives_turns s input tt }
gives s (Gave client block said end) =
    let input : In = Gave client block said end in record { epoch = (takes-transition s input tt).0; turns = gives_turns s input tt }
gives s (Deltas log first upto rows) =
    let input : In = Deltas log first upto rows in record { epoch = (takes-transition s input tt).0; turns = gives_turns s input tt }
gives s (Check block place) = record { epoch = (takes-transition s (Check block place) tt).0; turns = gives_turns s (Check block place) tt }
gives s Tick = record { epoch = refl; turns = no_turns s.epoch s.turn s.turn refl }

pub in_order : (s : SlotState) (inputs : List In) → given_out s inputs ≡ stamps_after s.epoch s.turn (length (given_out s inputs))
in_order s [] = refl
in_order s (input ∷ inputs) =
    let one = gives s input in
    let next : SlotState = (transition s input).state in
    let rest : given_out next inputs ≡ stamps_after s.epoch next.turn (length (given_out next inputs)) =
    in_order next inputs ∙ ap (λ e. stamps_after e next.turn (length (given_out next inputs))) one.epoch in
    both_turns s.epoch s.turn next.turn (given_by input (transition s input).outs) (given_out next inputs) one.turns rest
