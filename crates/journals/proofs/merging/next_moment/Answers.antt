use Rattle.std.proofs.Common.{◌≡◌, ◌∙◌, ap, sym, ◌∷◌, length, None, arith}
use Rattle.std.specs.Prelude.{slice_set}
use Rattle.std.proofs.lemmas.Option.{slice_get_within}
use Rattle.journals.specs.Merging.{head_clock, heads_of, least_from}
use Rattle.journals.proofs.Least.{chosen_of, heads_count, heads_set, next_taken, none_left}
use Rattle.journals.proofs.Lefts.{not_empty}
use Rattle.journals.proofs.merging.next_moment.Goals as goal

pub returns-in-None-clause-next : goal.returns-in-None-clause-next
returns-in-None-clause-next c =
    none_left c.args.rests.now.items c.least.result (c.least.ensures ∙ ap (least_from None 0) (c.as_slice.ensures.value ∙ c.requires)) c.in-None.is

pub pop_at-requires-clause-rests : goal.pop_at-requires-clause-rests
pop_at-requires-clause-rests c =
    let b =
    chosen_of c.args.rests.now.items c.least.result (c.in-Some.place, c.in-Some.field-0-1) (c.least.ensures ∙ ap (least_from None 0) (c.as_slice.ensures.value ∙ c.requires)) c.in-Some.is
    in
    slice_get_within c.args.rests.now.items c.in-Some.place (b.head ∷ b.tail) b.at

pub pop_at-requires-clause-heads : goal.pop_at-requires-clause-heads
pop_at-requires-clause-heads c =
    let b =
    chosen_of c.args.rests.now.items c.least.result (c.in-Some.place, c.in-Some.field-0-1) (c.least.ensures ∙ ap (least_from None 0) (c.as_slice.ensures.value ∙ c.requires)) c.in-Some.is
    in
    let within = slice_get_within c.args.rests.now.items c.in-Some.place (b.head ∷ b.tail) b.at in
    let count : length c.args.heads.now.items ≡ length c.args.rests.now.items = ap length c.requires ∙ heads_count c.args.rests.now.items in
    omega arith

pub returns-in-None-pop_at-clause-next : goal.returns-in-None-pop_at-clause-next
returns-in-None-pop_at-clause-next c =
    let b =
    chosen_of c.args.rests.now.items c.least.result (c.in-Some.place, c.in-Some.field-0-1) (c.least.ensures ∙ ap (least_from None 0) (c.as_slice.ensures.value ∙ c.requires)) c.in-Some.is
    in
    absurd (not_empty c.args.rests.now.items c.in-Some.place b.head b.tail c.in-None-pop_at.ensures b.at)

pub returns-in-Some-pop_at-clause-next : goal.returns-in-Some-pop_at-clause-next
returns-in-Some-pop_at-clause-next c =
    let b =
    chosen_of c.args.rests.now.items c.least.result (c.in-Some.place, c.in-Some.field-0-1) (c.least.ensures ∙ ap (least_from None 0) (c.as_slice.ensures.value ∙ c.requires)) c.in-Some.is
    in
    let popped = c.in-Some-pop_at.ensures in
    next_taken c.args.rests.now.items c.pop_at.new.rests.items c.in-Some.place c.in-Some.field-0-1 c.in-Some-pop_at.moment popped.0 b popped.1 popped.2

pub returns-in-Some-pop_at-clause-heads : goal.returns-in-Some-pop_at-clause-heads
returns-in-Some-pop_at-clause-heads c =
    let popped = c.in-Some-pop_at.ensures in
    popped.3 ∙ ap (λ heads. slice_set heads c.in-Some.place (head_clock popped.0)) c.requires ∙ sym (heads_set c.args.rests.now.items c.in-Some.place popped.0) ∙ sym (ap heads_of popped.2)
