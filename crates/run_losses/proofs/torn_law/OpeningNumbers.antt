-- An opening asks servers for fragments by numbers of questions that its node drew.
use Rattle.std.proofs.Common.{ℕ, ◌≤◌, ◌==◌, Bool, true, false, cond, List, [], ◌∷◌, Option, Some, None, arith}
use Rattle.xfs_base.proofs.Booleans.{by_test}
use Rattle.xfs_base.specs.declared.node.NodeId.{NodeId}
use Rattle.xfs_base.specs.Steps.{steps}
use Rattle.xfs_base.proofs.Alls.{all_append}
use Rattle.group_map.specs.GroupMapState.{GroupMapState}
use Rattle.client_log.specs.declared.input.In.{In as LogIn}
use Rattle.log_owner.specs.declared.ended.Owner.{Owner}
use Rattle.log_owner.specs.declared.known.Known.{Known}
use Rattle.log_owner.specs.declared.opened.Progress.{Progress}
use Rattle.log_owner.specs.declared.opened.Progress.TheVariants as progress
use Rattle.log_owner.specs.declared.opening.Opening.{Opening}
use Rattle.log_owner.specs.declared.opening.Scanning.{Scanning}
use Rattle.log_owner.specs.declared.opening.Settling.{Settling}
use Rattle.log_owner.specs.declared.opening.Stage.{Stage}
use Rattle.log_owner.specs.declared.opening.Stage.TheVariants as stage
use Rattle.log_owner.specs.Opening.{Went, stays, asking, known_scanning, nothing_asked, sent_send, scanned, known_write, scans_on, welcomed_with, welcomed, on_tick, opening_take}
use Rattle.log_owner.specs.Promised.{promised_of}
use Rattle.log_scan.specs.declared.input.In.{In as Input}
use Rattle.log_scan.specs.declared.input.In.TheVariants as input
use Rattle.log_scan.specs.declared.output.Out.{Out}
use Rattle.log_scan.specs.declared.output.Out.TheVariants.{Hello, Fence, Fetch, Chain, Lost}
use Rattle.log_scan.specs.Transition.{transition}
use Rattle.node_base.specs.Asking.{asked_as, draw, drawn_for, next_ask, number_for}
use Rattle.node_base.specs.declared.effects.Effect.{Effect}
use Rattle.node_base.specs.declared.effects.Effect.TheVariants.{Send}
use Rattle.node_base.specs.declared.questions.Asked.{Asked}
use Rattle.node_base.specs.declared.questions.Questions.{Questions}
use Rattle.node_base.specs.Maps.{maps_take}
use Rattle.wire_msg.specs.declared.body.Body.{Body}
use Rattle.wire_msg.specs.declared.body.Body.TheVariants as body
use Rattle.wire_msg.specs.declared.packet.Packet.{Packet}
use Rattle.wire_msg.specs.declared.registry.News.{News}
use Rattle.node_moves.proofs.OpeningWalk.{Any, Walk, packet_so, tick_so}
use Rattle.run_losses.proofs.torn_law.ClientFetches.{AllUpTo, UpTo, last_up}
use Rattle.run_losses.proofs.torn_law.OpeningTurns.{NotFetch, ended_so, none_ended, known_write_so}

-- ---- numbers

number_by : (t : Bool) (ask : ℕ) (q : Questions) → ask ≤ q.last → cond t ask (next_ask q) ≤ (cond t q (draw q)).last
number_by true ask q small = small
number_by false ask q small = omega arith

number_up : (a : Asked) (q : Questions) (own : ℕ) → a.ask ≤ q.last → number_for a q own ≤ (drawn_for a q own).last
number_up a q own small = number_by (own == a.own) a.ask q small

for_more : (a : Asked) (q : Questions) (own : ℕ) → q.last ≤ (drawn_for a q own).last
for_more a q own = by_test (λ (p : Questions). q.last ≤ p.last) (own == a.own) q (draw q) (λ t. omega arith) (λ t. last_up q.last)

record Up (last highest : ℕ) (outs : List Effect) : Type 0 where
  up : last ≤ highest
  does : AllUpTo highest outs

-- what is said first bears a number that was drawn
one_first : (low last highest : ℕ) (e : Effect) (outs : List Effect) → low ≤ last → Up last highest outs → (last ≤ highest → UpTo highest e)
    → Up low highest (e ∷ outs)
one_first low last highest e outs less u fact = record { up = (let a = u.up in omega arith); does = (fact u.up, u.does) }

said_up : (owner : Owner) (low : ℕ) (a : Asked) (q : Questions) (e : _) (outs : List Out) → a.ask ≤ q.last
    → Up q.last (steps (sent_send owner low) (record { asked = a; questions = q; ended = e }) outs).state.questions.last
    (steps (sent_send owner low) (record { asked = a; questions = q; ended = e }) outs).outs
unfolding sent_send
said_up owner low a q e [] small = record { up = omega arith; does = tt }
said_up owner low a q e (Hello own ∷ outs) small =
    one_first q.last (drawn_for a q own).last _ _ _ (for_more a q own)
    (said_up owner low (asked_as a q own) (drawn_for a q own) e outs (number_up a q own small)) (λ less. tt)
said_up owner low a q e (Fence server ∷ outs) small = one_first q.last q.last _ _ _ (omega arith) (said_up owner low a q e outs small) (λ less. tt)
said_up owner low a q e (Fetch server name own ∷ outs) small =
    one_first q.last (drawn_for a q own).last _ _ _ (for_more a q own)
    (said_up owner low (asked_as a q own) (drawn_for a q own) e outs (number_up a q own small))
    (λ less. let n = number_up a q own small in omega arith)
said_up owner low a q e (Chain segments end prior ∷ outs) small = said_up owner low a q _ outs small
said_up owner low a q e (Lost name ∷ outs) small = said_up owner low a q _ outs small

-- ---- what an event makes of it

pub record WentUp (last : ℕ) (w : Went) : Type 0 where
  pub up : last ≤ w.questions.last
  pub does : AllUpTo w.questions.last w.effects

abbrev pub StageUp : ℕ → Stage → Type 0
StageUp last (stage.Scanning s) = s.asked.ask ≤ last
StageUp last (stage.Settling s) = Unit {0}

quiet_up : (highest : ℕ) (to : NodeId) (b : Body) → NotFetch b → UpTo highest (Send to b)
quiet_up highest to (body.Fetch m) none = absurd none
quiet_up highest to _ none = tt

stays_up : (q : Questions) (p : Progress) → WentUp q.last (stays p q)
stays_up q p = record { up = omega arith; does = tt }

writes_up : (k : Known) (q : Questions) (s : Settling) (i : LogIn) → WentUp q.last (asking q (known_write k s i))
writes_up k q s i = record {
  up = omega arith;
  does = (known_write_so (λ x. Unit {0}) (UpTo q.last) q (quiet_up q.last) (λ name. tt) k s i).does;
}

scan_up : (k : Known) (q : Questions) (s : Scanning) (i : Input) → s.asked.ask ≤ q.last → WentUp q.last (scans_on k q s i)
unfolding scans_on
scan_up k q s i small =
    let d = transition s.scan i in
    let r = scanned k.owner d.state.opening.low s.asked q d.outs in
    let u : Up q.last r.state.questions.last r.outs = said_up k.owner d.state.opening.low s.asked q None d.outs small in
    record {
      up = u.up;
      does = all_append (UpTo r.state.questions.last) r.outs _ u.does
          (ended_so (λ x. Unit {0}) (UpTo r.state.questions.last) q (quiet_up r.state.questions.last) (λ name. tt) k.owner d.state.opening.low s.asked q None
          d.outs (λ seg lost. tt) (none_ended (λ x. Unit {0}) (UpTo r.state.questions.last) q (quiet_up r.state.questions.last) (λ name. tt)) k
          (record { scan = d.state; asked = r.state.asked }) tt).does;
    }

with_up : (k : Known) (q : Questions) (s : Scanning) (news : News) (own : ℕ) (groups : Option GroupMapState) → WentUp q.last (welcomed_with k q s news own
    groups)
with_up k q s news own None = stays_up q (known_scanning k s)
with_up k q s news own (Some groups) =
    scan_up (record k { promised = promised_of news.slots }) q (record s { asked = nothing_asked }) (input.Welcome own news.slots groups) (omega arith)

welcomed_up : (k : Known) (q : Questions) (s : Scanning) (news : News) (own : ℕ) → WentUp q.last (welcomed k q s news own)
unfolding welcomed
welcomed_up k q s news own = with_up (record k { maps = maps_take k.maps news }) q s news own (maps_take k.maps news).groups

abbrev Holds : Known → Questions → Stage → Went → Type 0
Holds k q at w = StageUp q.last at → WentUp q.last w

walk : Walk Any Holds
walk = record {
  rests = λ o q small. stays_up q (progress.Opening o);
  asks = λ o q small. record { up = last_up q.last; does = (tt, tt) };
  scan = λ k q s i comes small. scan_up k q s i small;
  log = λ k q s i heard small. writes_up k q s i;
  welcome = λ from k q s m own said small. welcomed_up k q s m.news own;
  newer = λ from k news q at w said fact. fact;
}

pub packet_up : (o : Opening) (q : Questions) (packet : Packet) → StageUp q.last o.stage → WentUp q.last (opening_take o q packet)
packet_up o q packet = packet_so Any Holds walk o q packet tt

pub tick_up : (o : Opening) (q : Questions) → StageUp q.last o.stage → WentUp q.last (on_tick o q)
tick_up o q = tick_so Any Holds walk o q
