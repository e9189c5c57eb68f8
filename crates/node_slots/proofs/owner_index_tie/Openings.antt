-- What each event makes of the opening of a log.
use Rattle.std.proofs.Common.{◌≡◌, ◌≤◌, ℕ, [], ◌∷◌, Option, Some, None}
use Rattle.segment_format.specs.declared.segment.Segment.{Segment}
use Rattle.group_map.specs.GroupMapState.{GroupMapState}
use Rattle.log_owner.specs.declared.ended.Owner.{Owner}
use Rattle.log_owner.specs.declared.known.Known.{Known}
use Rattle.log_owner.specs.declared.opened.Progress.TheVariants as progress
use Rattle.log_owner.specs.declared.opening.Opening.{Opening}
use Rattle.log_owner.specs.declared.opening.Scanning.{Scanning}
use Rattle.log_owner.specs.declared.opening.Stage.{Stage}
use Rattle.log_owner.specs.Opening.{Went, at_first, welcomed_with, welcomed, on_tick, opening_take, nothing_asked}
use Rattle.log_owner.specs.Promised.{promised_of}
use Rattle.log_owner.specs.Sending.{hello}
use Rattle.log_scan.specs.declared.input.In.TheVariants as input
use Rattle.node_base.specs.Asking.{next_ask}
use Rattle.node_base.specs.declared.maps.Maps.{Maps}
use Rattle.node_base.specs.declared.questions.Questions.{Questions}
use Rattle.node_base.specs.Maps.{maps_take}
use Rattle.wire_msg.specs.declared.packet.Packet.{Packet}
use Rattle.wire_msg.specs.declared.registry.News.{News}
use Rattle.node_moves.proofs.OpeningWalk.{Any, Walk, packet_so, tick_so}
use Rattle.headline.specs.Filed.{Filed, Texts}
use Rattle.index_tie.specs.Net.{Net}
use Rattle.node_slots.specs.owner_index_tie.Filing.{filing}
use Rattle.node_slots.specs.owner_index_tie.Owners.{LogFits, StageSeen, OpeningSeen}
use Rattle.node_slots.proofs.owner_index_tie.OpeningLog as log
use Rattle.node_slots.proofs.owner_index_tie.OpeningLog.{IsStage, WentSo}

-- an opening that just began
pub first_so : (l : ℕ) (owner : Owner) (servers : ℕ) (q : Questions) → owner.log ≡ record { 0 = l } → OpeningSeen l (at_first owner servers q)
first_so l owner servers q own = record { own = own; stage = tt }

module _ (New : Filed → Segment → Type 0) (part : ℕ) (texts : Texts) (n : Net) (l since : ℕ) (f : Filed) (late : since ≤ f.head l)
    (sized : LogFits part (filing n f) l) (at : Stage) where
  abbrev So : Went → Type 0
  So w = WentSo New part texts n l since f at w

  -- ---- the events

  welcomed_with_so : (k : Known) → k.owner.log ≡ record { 0 = l } → (q : Questions) (s : Scanning) (maps : Maps) (news : News) (asked : ℕ)
      (groups : Option GroupMapState) → So (welcomed_with (record k { maps = maps }) q s news asked groups)
  welcomed_with_so k own q s maps news asked None = log.rests_at New part texts n l since f late sized at (record k { maps = maps }) own q s
  welcomed_with_so k own q s maps news asked (Some groups) =
      log.scans_so New part texts n l since f late sized at (record k { maps = maps; promised = promised_of news.slots }) own q
      (record s { asked = nothing_asked }) (input.Welcome asked news.slots groups)

  welcomed_so : (k : Known) → k.owner.log ≡ record { 0 = l } → (q : Questions) (s : Scanning) (news : News) (asked : ℕ) → So (welcomed k q s news asked)
  unfolding welcomed
  welcomed_so k own q s news asked = (let maps : Maps = maps_take k.maps news in welcomed_with_so k own q s maps news asked maps.groups)

  abbrev Holds : Known → Questions → Stage → Went → Type 0
  Holds k q x w = k.owner.log ≡ record { 0 = l } → StageSeen l x → IsStage texts l f at x → So w

  walk : Walk Any Holds
  walk = record {
    rests = λ o q own h owed. log.opening_so New part texts n l since f late sized at o q (record { own = own; stage = h });
    asks = λ o q own h owed gets.
        log.plain_so New part texts n l since f late sized at (progress.Opening o) (hello o.known.owner.inc (next_ask q) ∷ [])
        (sized, record { own = own; stage = h }) (tt, tt);
    scan = λ k q s i comes own h owed. log.scans_so New part texts n l since f late sized at k own q s i;
    log = λ k q s i heard own h owed. log.known_write_so New part texts n l since f late sized at k own s i heard h owed.0 owed.1;
    welcome = λ from k q s m asked said own h owed. welcomed_so k own q s m.news asked;
    newer = λ from k news q x w said goes. goes;
  }

  pub packet_goes : (o : Opening) (q : Questions) (p : Packet) → OpeningSeen l o → IsStage texts l f at o.stage → So (opening_take o q p)
  packet_goes o q p h owed = packet_so Any Holds walk o q p tt h.own h.stage owed

  pub tick_goes : (o : Opening) (q : Questions) → OpeningSeen l o → IsStage texts l f at o.stage → So (on_tick o q)
  tick_goes o q h owed = tick_so Any Holds walk o q h.own h.stage owed
