-- An opening of a log takes back no question of its node: their numbers rise.
use Rattle.std.proofs.Common.{◌==◌, ℕ, ◌≤◌, List, [], ◌∷◌, Option, None, Some, arith}
use Rattle.group_map.specs.GroupMapState.{GroupMapState}
use Rattle.log_owner.specs.declared.ended.Owner.{Owner}
use Rattle.log_owner.specs.declared.known.Known.{Known}
use Rattle.log_owner.specs.declared.opening.Opening.{Opening}
use Rattle.log_owner.specs.declared.opening.Scanning.{Scanning}
use Rattle.log_owner.specs.declared.opening.Stage.{Stage}
use Rattle.log_owner.specs.Opening.{Went, opening_take, on_tick, sent_send, scans_on, welcomed, welcomed_with}
use Rattle.log_scan.specs.declared.input.In.{In}
use Rattle.log_scan.specs.declared.input.In.TheVariants as input
use Rattle.log_scan.specs.declared.output.Out.{Out}
use Rattle.log_scan.specs.declared.output.Out.TheVariants as out
use Rattle.log_scan.specs.Transition as scan
use Rattle.node_base.specs.Asking.{asked_as, draw, drawn_for}
use Rattle.node_base.specs.declared.questions.Asked.{Asked}
use Rattle.node_base.specs.declared.questions.Questions.{Questions}
use Rattle.node_base.specs.Maps.{maps_take}
use Rattle.node_moves.proofs.OpeningWalk as walked
use Rattle.node_moves.proofs.OpeningWalk.{Any, Walk}
use Rattle.wire_msg.specs.declared.packet.Packet.{Packet}
use Rattle.wire_msg.specs.declared.registry.News.{News}
use Rattle.run_laws.proofs.world_index.AskingSays.{below_next}
use Rattle.xfs_base.proofs.Booleans.{by_test}
use Rattle.xfs_base.specs.Steps.{steps}

abbrev pub Rises : Questions → Went → Type 0
Rises q w = q.last ≤ w.questions.last

still_rises : (q : Questions) → q.last ≤ q.last
still_rises q = let l = q.last in omega arith

for_more : (a : Asked) (q : Questions) (own : ℕ) → q.last ≤ (drawn_for a q own).last
for_more a q own = by_test (λ (r : Questions). q.last ≤ r.last) (own == a.own) q (draw q) (λ _. still_rises q) (λ _. below_next q)

said_more : (owner : Owner) (low : ℕ) (a : Asked) (q : Questions) (e : _) (outs : List Out)
    → q.last ≤ (steps (sent_send owner low) (record { asked = a; questions = q; ended = e }) outs).state.questions.last
unfolding sent_send
said_more owner low a q e [] = still_rises q
said_more owner low a q e (out.Hello own ∷ outs) =
    let more = for_more a q own in let rest = said_more owner low (asked_as a q own) (drawn_for a q own) e outs in omega arith
said_more owner low a q e (out.Fence server ∷ outs) = said_more owner low a q e outs
said_more owner low a q e (out.Fetch server name own ∷ outs) =
    let more = for_more a q own in let rest = said_more owner low (asked_as a q own) (drawn_for a q own) e outs in omega arith
said_more owner low a q e (out.Chain segments end prior ∷ outs) = said_more owner low a q _ outs
said_more owner low a q e (out.Lost name ∷ outs) = said_more owner low a q _ outs

scan_more : (k : Known) (q : Questions) (s : Scanning) (i : In) → Rises q (scans_on k q s i)
unfolding scans_on
scan_more k q s i = let r = scan.transition s.scan i in
    said_more k.owner r.state.opening.low s.asked q None r.outs

hear_more : (k : Known) (q : Questions) (s : Scanning) (news : News) (own : ℕ) (groups : Option GroupMapState) → Rises q (welcomed_with k q s news own groups)
hear_more k q s news own None = still_rises q
hear_more k q s news own (Some groups) = scan_more _ q _ (input.Welcome own news.slots groups)

welcomed_more : (k : Known) (q : Questions) (s : Scanning) (news : News) (own : ℕ) → Rises q (welcomed k q s news own)
unfolding welcomed
welcomed_more k q s news own = hear_more (record k { maps = maps_take k.maps news }) q s news own (maps_take k.maps news).groups

-- ---- the events

abbrev Holds : Known → Questions → Stage → Went → Type 0
Holds k q at w = Rises q w

walk : Walk Any Holds
walk = record {
  rests = λ o q. still_rises q;
  asks = λ o q. below_next q;
  scan = λ k q s i comes. scan_more k q s i;
  log = λ k q s i heard. still_rises q;
  welcome = λ from k q s m own said. welcomed_more k q s m.news own;
  newer = λ from k news q at w said goes. goes;
}

pub tick_more : (o : Opening) (q : Questions) → Rises q (on_tick o q)
tick_more o q = walked.tick_so Any Holds walk o q

pub packet_more : (o : Opening) (q : Questions) (p : Packet) → Rises q (opening_take o q p)
packet_more o q p = walked.packet_so Any Holds walk o q p tt
