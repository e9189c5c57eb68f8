use Rattle.std.proofs.Common.{◌≡◌, ◌∙◌, ◌∷◌, [], ℕ, ap, sym, subst, length, length-append, arith}
use Rattle.std.proofs.lemmas.List.Elements.{All-same}
use Rattle.std.specs.Vec.Iter.{into_iter_items}
use Rattle.live_run.proofs.Begun.{All-reverse}
use Rattle.mounts.proofs.Made.{IsLeft, all_left, last_one, left_first, left_less, port_at, without_last}
use Rattle.mounts.proofs.starting.clients_of.Goals as goal

pub loop-port-init : goal.loop-port-init
loop-port-init g c =
    let all : into_iter_items c.into_iter-port-iterator.result ≡ c.args.ports.items = c.into_iter-port-iterator.ensures.into_iter_gives.0 in
    let none = ap length c.new-clients.ensures.items in
    let round = c.turned_round-left.ensures in
    record {
      fresh = All-same (λ d. d.journal.moments ≡ []) _ _ round.order (All-reverse (λ d. d.journal.moments ≡ []) c.args.cells.items c.requires.fresh);
      count = let same = round.count in omega arith;
      ports = let same = ap length all in omega arith;
      rest = subst (λ (n : ℕ). IsLeft c.args.ports.items n (into_iter_items c.into_iter-port-iterator.result)) (sym none) (all_left c.args.ports.items (into_iter_items c.into_iter-port-iterator.result) all);
    }

pub loop-port-preserved : goal.loop-port-preserved
loop-port-preserved g c =
    let i = c.loop-port.invariant in
    let step = c.in-Some.ensures.steps.0 in
    let more = ap length c.in_ok-push.ensures.items ∙ length-append c.loop-port.clients.items (c.start.result ∷ []) in
    let less = ap length c.in_ok-cell.ensures ∙ length-append c.take_last.new.all.items (c.in_ok-cell.cell ∷ []) in
    record {
      fresh = without_last (λ d. d.journal.moments ≡ []) c.loop-port.left.items c.take_last.new.all.items c.in_ok-cell.cell c.in_ok-cell.ensures i.fresh;
      count = let was = i.count in omega arith;
      ports = let one = ap length step in let was = i.ports in omega arith;
      rest = left_less c.args.ports.items _ (into_iter_items c.next.new.self) (length c.loop-port.clients.items) (length c.push.new.self.items) c.in-Some.port i.rest step more;
    }

pub start-requires-clause-empty : goal.start-requires-clause-empty
start-requires-clause-empty g c =
    last_one (λ d. d.journal.moments ≡ []) c.loop-port.left.items c.take_last.new.all.items c.in_ok-cell.cell c.in_ok-cell.ensures c.loop-port.invariant.fresh

pub start-requires-clause-fresh : goal.start-requires-clause-fresh
start-requires-clause-fresh g c =
    let i = c.loop-port.invariant in
    c.requires.unused (length c.loop-port.clients.items) c.in-Some.port
    (left_first c.args.ports.items _ (into_iter_items c.next.new.self) (length c.loop-port.clients.items) c.in-Some.port i.rest c.in-Some.ensures.steps.0)

pub start-requires-clause-named : goal.start-requires-clause-named
start-requires-clause-named g c =
    let i = c.loop-port.invariant in
    let there = left_first c.args.ports.items _ (into_iter_items c.next.new.self) (length c.loop-port.clients.items) c.in-Some.port i.rest c.in-Some.ensures.steps.0 in
    port_at g.R.MountName.ports c.args.ports.items c.in_ok-cell.cell.journal.place (length c.loop-port.clients.items) c.in-Some.port c.requires.ports
    (let s = c.stands_at.ensures c.if-not-stands_at.false in let l = c.len.ensures in let known = c.loop-port.clients.ok.0 in omega arith) there

pub returns-clause-count : goal.returns-clause-count
returns-clause-count g c = let round = c.turned_round.ensures.count in let was = c.loop-port.invariant.count in omega arith
