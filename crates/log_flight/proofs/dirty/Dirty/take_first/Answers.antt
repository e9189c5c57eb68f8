use Rattle.std.proofs.Common.{◌≡◌, ap, ◌∙◌, min, length, take, drop}
use Rattle.std.proofs.lemmas.List.{take_min, drop_min}
use Rattle.log_flight.proofs.dirty.Dirty.take_first.Goals as goal

pub returns-clause-first : goal.returns-clause-first
returns-clause-first c =
    let xs = c.self.inside.changes.entries in
    let n : c.min-count.result ≡ min 24 (length xs) = c.min-count.ensures ∙ ap (λ k. min 24 k) c.len.ensures.len in
    let t : take (min 24 (length xs)) xs ≡ take 24 xs = take_min 24 xs in
    cc (c.in_ok-rest.ensures.kept)

pub returns-clause-rest : goal.returns-clause-rest
returns-clause-rest c =
    let xs = c.self.inside.changes.entries in
    let n : c.min-count.result ≡ min 24 (length xs) = c.min-count.ensures ∙ ap (λ k. min 24 k) c.len.ensures.len in
    let t : drop (min 24 (length xs)) xs ≡ drop 24 xs = drop_min 24 xs in
    cc (c.in_ok-rest.ensures.tail)
