use Rattle.std.proofs.Common.{true, refl, sym, ap, subst, arith}
use Rattle.wire_msg.specs.declared.packet.Do.TheVariants.{Begin, Deliver, Tick}
use Rattle.world_base.specs.Cluster.{cluster_of}
use Rattle.live_links.specs.Acts.{CellView}
use Rattle.live_links.specs.Ends.{AreStill}
use Rattle.live_links.specs.Facts.{dues_at, first_at, name_at}
use Rattle.journals.specs.Journals.{begins, whats}
use Rattle.live_links.proofs.Acting.{acted_then}
use Rattle.live_links.proofs.Answering.{answered_then, begun_then, one_begun, unticked_then}
use Rattle.live_links.proofs.Choosing.{begin_chosen, else_chosen, tick_chosen}
use Rattle.live_links.proofs.Popping.{received_took, still_none}
use Rattle.live_links.proofs.cell.Cell.act_when.Goals as goal

pub turn-requires-then-is_to_begin-clause-due : goal.turn-requires-then-is_to_begin-clause-due
turn-requires-then-is_to_begin-clause-due g c e = c.is_to_begin.ensures.due c.if-is_to_begin.true

pub take-requires : goal.take-requires
take-requires g c = received_took c.args.self.ins c.receive.new.self.ins c.in-Some.letter c.in-Some.ensures.taken

pub returns-then-is_to_begin-clause-acted : goal.returns-then-is_to_begin-clause-acted
returns-then-is_to_begin-clause-acted g c =
    let script = g.R.RunName.script in
    let s = c.args.self in
    let new = c.in_ok-begun.begun in
    let old : CellView = record { moments = s.journal.moments; outs = s.outs; ins = s.ins } in
    acted_then g.N.Actor.transition (first_at g.N.Member.first script) (cluster_of script.setup) s.journal.place s.journal.place Begin 0 0 old old
    (record { moments = new.journal.moments; outs = new.outs; ins = new.ins }) refl refl refl (still_none s.ins) c.in_ok-begun.ensures.same c.in_ok-begun.ensures.turns

pub returns-in_ok-taken-in-Some-clause-acted : goal.returns-in_ok-taken-in-Some-clause-acted
returns-in_ok-taken-in-Some-clause-acted g c =
    let script = g.R.RunName.script in
    let s = c.args.self in
    let mid = c.receive.new.self in
    let new = c.in_ok-taken-in-Some.taken in
    let letter = c.in-Some.letter in
    acted_then g.N.Actor.transition (first_at g.N.Member.first script) (cluster_of script.setup) s.journal.place mid.journal.place (Deliver letter.packet) letter.from letter.number
    (record { moments = s.journal.moments; outs = s.outs; ins = s.ins }) (record { moments = mid.journal.moments; outs = mid.outs; ins = mid.ins })
    (record { moments = new.journal.moments; outs = new.outs; ins = new.ins }) c.receive.ensures.place c.receive.ensures.moments c.receive.ensures.outs c.in-Some.ensures.taken
    c.in_ok-taken-in-Some.ensures.same c.in_ok-taken-in-Some.ensures.turns

pub returns-then-is_to_begin-clause-begun : goal.returns-then-is_to_begin-clause-begun
returns-then-is_to_begin-clause-begun g c =
    let script = g.R.RunName.script in
    let s = c.args.self in
    begun_then g.N.Actor.transition (name_at script s.journal.place) (first_at g.N.Member.first script s.journal.place) s.journal.place Begin 0 0 s.journal.moments c.in_ok-begun.begun.journal.moments _
    c.in_ok-begun.ensures.turns.moments (one_begun c.args.may_begin (c.is_to_begin.ensures.may c.if-is_to_begin.true))

pub returns-then-is_to_begin-clause-answered : goal.returns-then-is_to_begin-clause-answered
returns-then-is_to_begin-clause-answered g c =
    let script = g.R.RunName.script in
    let s = c.args.self in
    answered_then g.N.Actor.transition g.N.Member.first script s.journal.place s.journal.place Begin 0 0 s.journal.moments s.journal.moments c.in_ok-begun.begun.journal.moments refl refl
    c.in_ok-begun.ensures.turns.moments

pub returns-in_ok-taken-in-Some-clause-begun : goal.returns-in_ok-taken-in-Some-clause-begun
returns-in_ok-taken-in-Some-clause-begun g c =
    let script = g.R.RunName.script in
    let mid = c.receive.new.self in
    let letter = c.in-Some.letter in
    let same = ap (λ ms. begins (whats ms)) c.receive.ensures.moments in
    let most = begun_then g.N.Actor.transition (name_at script mid.journal.place) (first_at g.N.Member.first script mid.journal.place) mid.journal.place (Deliver letter.packet) letter.from letter.number
    mid.journal.moments c.in_ok-taken-in-Some.taken.journal.moments 0 c.in_ok-taken-in-Some.ensures.turns.moments (omega arith)
    in
    omega arith

pub returns-in_ok-taken-in-Some-clause-answered : goal.returns-in_ok-taken-in-Some-clause-answered
returns-in_ok-taken-in-Some-clause-answered g c =
    let script = g.R.RunName.script in
    let s = c.args.self in
    let mid = c.receive.new.self in
    let letter = c.in-Some.letter in
    answered_then g.N.Actor.transition g.N.Member.first script s.journal.place mid.journal.place (Deliver letter.packet) letter.from letter.number s.journal.moments mid.journal.moments
    c.in_ok-taken-in-Some.taken.journal.moments c.receive.ensures.place c.receive.ensures.moments c.in_ok-taken-in-Some.ensures.turns.moments

pub returns-then-is_to_begin-clause-chosen : goal.returns-then-is_to_begin-clause-chosen
returns-then-is_to_begin-clause-chosen g c =
    let script = g.R.RunName.script in
    let s = c.args.self in
    let new = c.in_ok-begun.begun in
    let same = c.in_ok-begun.ensures.same in
    begin_chosen g.N.Actor.transition (first_at g.N.Member.first script) (cluster_of script.setup) s.journal.place (name_at script s.journal.place) (dues_at script s.journal.place) c.args.idle
    c.args.may_begin (record { moments = s.journal.moments; outs = s.outs; ins = s.ins }) (record { moments = new.journal.moments; outs = new.outs; ins = new.ins }) c.if-idle.false
    (subst (λ is. AreStill s.ins is) (sym same) (still_none s.ins)) c.in_ok-begun.ensures.turns

pub returns-in_ok-taken-in-Some-clause-chosen : goal.returns-in_ok-taken-in-Some-clause-chosen
returns-in_ok-taken-in-Some-clause-chosen g c =
    let script = g.R.RunName.script in
    let s = c.args.self in
    let mid = c.receive.new.self in
    let new = c.in_ok-taken-in-Some.taken in
    else_chosen g.N.Actor.transition (first_at g.N.Member.first script) (cluster_of script.setup) s.journal.place (name_at script s.journal.place) (dues_at script s.journal.place) c.args.idle
    c.args.may_begin true c.is_to_begin.result (record { moments = s.journal.moments; outs = s.outs; ins = s.ins }) (record { moments = new.journal.moments; outs = new.outs; ins = new.ins })
    c.if-idle.false c.is_to_begin.ensures.wherever c.if-is_to_begin.false
    (unticked_then g.N.Actor.transition (name_at script mid.journal.place) (first_at g.N.Member.first script mid.journal.place) mid.journal.place (Deliver c.in-Some.letter.packet) c.in-Some.letter.from c.in-Some.letter.number s.journal.moments mid.journal.moments
    new.journal.moments c.receive.ensures.moments c.in_ok-taken-in-Some.ensures.turns.moments refl)

pub returns-then-idle-clause-acted : goal.returns-then-idle-clause-acted
returns-then-idle-clause-acted g c =
    let script = g.R.RunName.script in
    let s = c.args.self in
    let new = c.in_ok-ticked.ticked in
    let old : CellView = record { moments = s.journal.moments; outs = s.outs; ins = s.ins } in
    acted_then g.N.Actor.transition (first_at g.N.Member.first script) (cluster_of script.setup) s.journal.place s.journal.place Tick 0 0 old old
    (record { moments = new.journal.moments; outs = new.outs; ins = new.ins }) refl refl refl (still_none s.ins) c.in_ok-ticked.ensures.same c.in_ok-ticked.ensures.turns

pub returns-then-idle-clause-begun : goal.returns-then-idle-clause-begun
returns-then-idle-clause-begun g c =
    let script = g.R.RunName.script in
    let s = c.args.self in
    let most = begun_then g.N.Actor.transition (name_at script s.journal.place) (first_at g.N.Member.first script s.journal.place) s.journal.place Tick 0 0
    s.journal.moments c.in_ok-ticked.ticked.journal.moments 0 c.in_ok-ticked.ensures.turns.moments (omega arith)
    in
    omega arith

pub returns-then-idle-clause-answered : goal.returns-then-idle-clause-answered
returns-then-idle-clause-answered g c =
    let script = g.R.RunName.script in
    let s = c.args.self in
    answered_then g.N.Actor.transition g.N.Member.first script s.journal.place s.journal.place Tick 0 0 s.journal.moments s.journal.moments c.in_ok-ticked.ticked.journal.moments refl refl
    c.in_ok-ticked.ensures.turns.moments

pub returns-then-idle-clause-chosen : goal.returns-then-idle-clause-chosen
returns-then-idle-clause-chosen g c =
    let script = g.R.RunName.script in
    let s = c.args.self in
    let new = c.in_ok-ticked.ticked in
    let same = c.in_ok-ticked.ensures.same in
    tick_chosen g.N.Actor.transition (first_at g.N.Member.first script) (cluster_of script.setup) s.journal.place (name_at script s.journal.place) (dues_at script s.journal.place) c.args.idle
    c.args.may_begin (record { moments = s.journal.moments; outs = s.outs; ins = s.ins }) (record { moments = new.journal.moments; outs = new.outs; ins = new.ins }) c.if-idle.true
    (subst (λ is. AreStill s.ins is) (sym same) (still_none s.ins)) c.in_ok-ticked.ensures.turns
