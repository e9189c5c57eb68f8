-- Where more of the same pairs were missing in two times, one after the other, than the parity makes good, the segment was torn at each moment between.
use Rattle.std.proofs.Common.{◌≡◌, ℕ, ◌<◌, ◌≤◌, Bool, true, List, [], ◌∷◌, Option, Some, None, length, refl, sym, ap, subst, arith}
use Rattle.std.specs.List.{count_by, list_any}
use Rattle.core_world.specs.AnyNode.{any_start, any_step}
use Rattle.core_world.specs.declared.any_node.AnyNode.{AnyNode}
use Rattle.group_map.specs.declared.group.Group.{Group}
use Rattle.group_map.specs.declared.group.Member.{Member}
use Rattle.loss_law.proofs.Counting.{Among, Apart, Each, counted, servers_of}
use Rattle.loss_law.proofs.Pairs.{apart_filter, each_both, each_filter, each_on, each_passes, found_before}
use Rattle.segment_reading.specs.Lost.{missing_twice, same_pair}
use Rattle.headline.specs.Torn.{IsTornAt, lacks}
use Rattle.world_base.specs.declared.estate.Estate.{Estate}
use Rattle.world_base.specs.Runs.{IsRun}
use Rattle.headline.specs.Moments.{moment}
use Rattle.headline.specs.Segments.{NotDeleted}
use Rattle.run_laws.specs.world_logs.Settings.{stripe_by}
use Rattle.headline.specs.Servers.{group_at, shelf_at}
use Rattle.xfs_base.specs.declared.segment.SegName.{SegName}
use Rattle.xfs_base.specs.declared.segment.SegRef.{SegRef}
use Rattle.run_losses.proofs.missing_law.Moments.{kept_before, lacks_between}
use Rattle.run_losses.specs.missing_law.Missed.{AreOfMembers, MissedIn, PairsMissed, WhatIsMissingTwiceWasTorn}

module _ (e : Estate AnyNode) (run : IsRun any_step any_start e.script e.events e.world) (segment : SegRef) (since middle drawn count : ℕ)
    (before now : List (ℕ × ℕ)) (first : Each (λ p. MissedIn e since middle p.0 p.1 segment.name) before)
    (second : Each (λ p. MissedIn e drawn count p.0 p.1 segment.name) now) (limit : drawn ≤ count) (kept : NotDeleted (moment e count) segment.name)
    (at : ℕ) (after : middle ≤ at) (until : at ≤ drawn) where
  abbrev lack : ℕ → Bool
  lack v = lacks (shelf_at (moment e at) v) segment.name

  abbrev both : List (ℕ × ℕ)
  both = missing_twice before now

  -- each that was missing twice was missing between
  all_lack : Each (λ p. lack p.0 ≡ true) both
  all_lack =
      each_both (λ p. MissedIn e since middle p.0 p.1 segment.name) (λ p. MissedIn e drawn count p.0 p.1 segment.name) (λ p. lack p.0 ≡ true)
      (λ p one two. lacks_between e run since middle drawn count p.0 p.1 segment.name one two kept at after until) both
      (each_on (λ p. list_any (same_pair p) before ≡ true) (λ p. MissedIn e since middle p.0 p.1 segment.name)
      (λ p fact. found_before (λ v generation. MissedIn e since middle v generation segment.name) p before first fact) both
      (each_passes (λ p. list_any (same_pair p) before) now))
      (each_filter (λ p. MissedIn e drawn count p.0 p.1 segment.name) (λ p. list_any (same_pair p) before) now second)

  pub torn_at : (servers : List ℕ) (parity : ℕ) → servers ≡ servers_of (stripe_by (group_at e.world segment.group)).members
      → parity ≡ (stripe_by (group_at e.world segment.group)).parity → Apart now → Each (Among servers) now → parity < length both → IsTornAt e at segment
  torn_at servers parity of same apart among many = by (group_at e.world segment.group) refl all same
    where
      all : length both ≤ count_by (λ (k : Member). lack k.server) (stripe_by (group_at e.world segment.group)).members
      all =
          counted lack both (stripe_by (group_at e.world segment.group)).members (apart_filter (λ p. list_any (same_pair p) before) now apart)
          (subst (λ s. Each (Among s) both) of (each_filter (Among servers) (λ p. list_any (same_pair p) before) now among)) all_lack

      by : (o : Option Group) → group_at e.world segment.group ≡ o → length both ≤ count_by (λ (k : Member). lack k.server) (stripe_by o).members
          → parity ≡ (stripe_by o).parity → IsTornAt e at segment
      by None fact fewer equal = absurd (let a = many in let b : length both ≤ 0 = fewer in omega arith)
      by (Some group) fact fewer equal = record {
        group = group;
        striped = fact;
        torn = (let a = many in let b : length both ≤ count_by (λ (k : Member). lack k.server) group.members = fewer in let c = equal in omega arith);
        kept = kept_before e at count (let a = until in let b = limit in omega arith) segment.name kept;
      }

-- ---- as a law

each_missed : (e : Estate AnyNode) (from to : ℕ) (name : SegName) (ps : List (ℕ × ℕ)) → PairsMissed e from to name ps
    → Each (λ p. MissedIn e from to p.0 p.1 name) ps
each_missed e from to name [] all = tt
each_missed e from to name (p ∷ ps) all = (all.0, each_missed e from to name ps all.1)

are_apart : (group : Group) (ps : List (ℕ × ℕ)) → AreOfMembers group ps → Apart ps
are_apart group [] all = tt
are_apart group (p ∷ ps) all = (all.0, are_apart group ps all.1.1)

are_among : (group : Group) (ps : List (ℕ × ℕ)) → AreOfMembers group ps → Each (Among (servers_of group.members)) ps
are_among group [] all = tt
are_among group (p ∷ ps) all = (all.1.0, are_among group ps all.1.1)

-- where a pair was missing from one moment to another, the second isn't before the first
in_order : (e : Estate AnyNode) (from to parity : ℕ) (name : SegName) (before now : List (ℕ × ℕ)) → PairsMissed e from to name now
    → parity < length (missing_twice before now) → from ≤ to
in_order e from to parity name before [] all many = absurd (let less : parity < 0 = many in omega arith)
in_order e from to parity name before (p ∷ ps) all many = (let a = all.0.since in let b = all.0.until in omega arith)

pub what_is_missing_twice_was_torn : WhatIsMissingTwiceWasTorn
what_is_missing_twice_was_torn e ok run segment group striped since middle drawn count before now first second apart many kept at after until =
    torn_at e run segment since middle drawn count before now (each_missed e since middle segment.name before first)
    (each_missed e drawn count segment.name now second) (in_order e drawn count group.parity segment.name before now second many) kept at after until
    (servers_of group.members) group.parity
    (sym (ap (λ o. servers_of (stripe_by o).members) striped)) (sym (ap (λ o. (stripe_by o).parity) striped)) (are_apart group now apart)
    (are_among group now apart) many
