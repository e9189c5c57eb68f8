-- What was dropped and is lost by what came to the cleaner since its item began is so still behind a further event.
use Rattle.std.proofs.Common.{ℕ, suc, List, Option, arith}
use Rattle.core_world.specs.declared.any_node.AnyNode.{AnyNode}
use Rattle.group_map.specs.declared.group.Group.{Group}
use Rattle.group_map.specs.GroupMapState.{GroupMapState}
use Rattle.stripe_code.specs.declared.round.Answer.{Answer as Reply}
use Rattle.wire_msg.specs.declared.body.Body.TheVariants as body
use Rattle.world_base.specs.declared.estate.Estate.{Estate}
use Rattle.xfs_base.specs.declared.node.NodeId.TheVariants as nodes
use Rattle.xfs_base.specs.declared.segment.SegName.{SegName}
use Rattle.xfs_base.specs.declared.segment.SegRef.{SegRef}
use Rattle.headline.specs.Cleanings.{AreCandidates, AreEmptied, AreTaken, IsDropped, IsLost, KnowsGroups, MissesUnder}
use Rattle.headline.specs.Cleanings.AreEmptied.{NoneYet, OneDropped, OneLost}
use Rattle.headline.specs.Cleanings.KnowsGroups.{AtFirst, ByNews, ByWelcome}
use Rattle.headline.specs.Tellings.{IsOfSegment}
use Rattle.run_answers.proofs.number_law.Tellings.{come_later, lists_later, replies_later}

-- what it told is of the segment
abbrev pub FitsOf : SegName → Reply → Type 0
FitsOf name r = IsOfSegment name r.told

-- ---- one event later

module _ (e : Estate AnyNode) (begun end : ℕ) where
  pub knows_later : (at_first : Option GroupMapState) (groups : GroupMapState) → KnowsGroups e begun end at_first groups
      → KnowsGroups e begun (suc end) at_first groups
  knows_later at_first groups (AtFirst same) = AtFirst same
  knows_later at_first groups (ByNews from news come same) = ByNews from news (come_later e nodes.Cleaner begun end from (body.MapNews news) come) same
  knows_later at_first groups (ByWelcome from welcome come same) =
      ByWelcome from welcome (come_later e nodes.Cleaner begun end from (body.Welcome welcome) come) same

  pub misses_later : (name : SegName) (group : Group) (ask : ℕ) (pairs : List (ℕ × ℕ)) → MissesUnder e begun end name group ask pairs
      → MissesUnder e begun (suc end) name group ask pairs
  misses_later name group ask pairs h = record {
    replies = h.replies;
    come = replies_later e nodes.Cleaner begun end name ask h.replies h.come;
    fit = h.fit;
    among = h.among;
    is = h.is;
  }

  pub dropped_later : (name : SegName) → IsDropped e begun end name → IsDropped e begun (suc end) name
  dropped_later name h =
      let low = h.before in
      record { place = h.place; since = h.since; before = omega arith; event = h.event; happens = h.happens; own = h.own; acted = h.acted }

  module _ (last : ℕ) (at_first : Option GroupMapState) where
    pub candidates_later : (candidates : List (SegName × ℕ)) → AreCandidates e begun end last at_first candidates
        → AreCandidates e begun (suc end) last at_first candidates
    candidates_later candidates h = record {
      from = h.from;
      welcome = h.welcome;
      welcomed = come_later e nodes.Cleaner begun end h.from (body.Welcome h.welcome) h.welcomed;
      answers = h.answers;
      groups = h.groups;
      known = knows_later at_first h.groups h.known;
      ask = h.ask;
      newer = h.newer;
      lists = h.lists;
      come = lists_later e nodes.Cleaner begun end h.lists h.come;
      asked = h.asked;
      all = h.all;
      are = h.are;
    }

    pub lost_later : (segment : SegRef) → IsLost e begun end last at_first segment → IsLost e begun (suc end) last at_first segment
    lost_later segment h = record {
      groups = h.groups;
      known = knows_later at_first h.groups h.known;
      group = h.group;
      its = h.its;
      ask = h.ask;
      again = h.again;
      newer = h.newer;
      later = h.later;
      before = h.before;
      now = h.now;
      once = misses_later segment.name h.group h.ask h.before h.once;
      twice = misses_later segment.name h.group h.again h.now h.twice;
      missed = h.missed;
    }

    pub emptied_later : {segments : List SegRef} {dropped : ℕ} → AreEmptied e begun end last at_first segments dropped
        → AreEmptied e begun (suc end) last at_first segments dropped
    emptied_later NoneYet = NoneYet
    emptied_later (OneDropped segment h one) = OneDropped segment (emptied_later h) (dropped_later segment.name one)
    emptied_later (OneLost segment h one) = OneLost segment (emptied_later h) (lost_later segment one)

    pub taken_later : (many : ℕ) (taken : List SegRef) → AreTaken e begun end many last at_first taken
        → AreTaken e begun (suc end) many last at_first taken
    taken_later many taken h = record {
      candidates = h.candidates;
      are = candidates_later h.candidates h.are;
      apart = h.apart;
      each = h.each;
      length_is = h.length_is;
    }
