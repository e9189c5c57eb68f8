-- What nodes refer to at a moment of a run: the parts of checkpoints flew in logs of the run, and so did the ends that were reported, over the groups with
-- which they are referred to. So it is at the start, and it stays so for what was told before.
use Rattle.std.proofs.Common.{inl, inr, ℕ, suc, List, [], ◌∷◌, map, sym, subst, arith}
use Rattle.core_world.specs.AnyNode.{any_start}
use Rattle.core_world.specs.declared.any_node.AnyNode.{AnyNode}
use Rattle.core_world.specs.declared.any_node.AnyNode.TheVariants as any
use Rattle.node_tellings.proofs.reference_tie.Managers.{managers_start}
use Rattle.node_tellings.proofs.reference_tie.Registries.{registry_starts}
use Rattle.node_tellings.proofs.reference_tie.Rising.{managers_rise, packets_rise, registry_rises}
use Rattle.node_tellings.specs.reference_tie.References.{References}
use Rattle.node_tellings.proofs.reference_tie.References.{Weaker}
use Rattle.token_protocol.specs.Basics.{In}
use Rattle.version_model.specs.declared.work.Work.{Work}
use Rattle.wire_msg.specs.declared.packet.Packet.{Packet}
use Rattle.world_base.specs.Cluster.{cluster_of, nodes_of}
use Rattle.world_base.specs.declared.estate.Estate.{Estate}
use Rattle.world_base.specs.NextWorld.{first_node, start_world}
use Rattle.run_laws.proofs.world_logs.Line.{grows}
use Rattle.run_laws.specs.world_reads.References.{AllRefer, AnyRefers, EndFlew, Flew, ReferencesStand, ReportFlew, its}
use Rattle.run_laws.specs.world_reads.LoggedRuns.{LoggedRun}
use Rattle.xfs_base.specs.declared.node.NodeId.{NodeId}
use Rattle.xfs_base.specs.declared.node.NodeId.TheVariants.{Client, Manager, Server, Cleaner, Registry}
use Rattle.xfs_base.specs.declared.segment.End.{End}
use Rattle.xfs_base.specs.declared.segment.SegRef.{SegRef}
use Rattle.xfs_base.specs.declared.setup.Setup.{Setup}
use Rattle.xfs_base.specs.Logs.{cleaners_number}

any_rises : (r later : References) → Weaker r later → (node : AnyNode) → AnyRefers r node → AnyRefers later node
any_rises r later w (any.Client node) h = tt
any_rises r later w (any.Manager node) h = managers_rise r later node w h
any_rises r later w (any.Server node) h = tt
any_rises r later w (any.Cleaner node) h = tt
any_rises r later w (any.Registry node) h = registry_rises r later node w h

-- what is so of some references is so of those that hold of more
pub all_rise : (r later : References) → Weaker r later → (nodes : List AnyNode) (sent : List Packet) → AllRefer r nodes sent → AllRefer later nodes sent
all_rise r later w nodes sent all = record {
  each_node = λ node among. any_rises r later w node (all.each_node node among);
  each_packet = λ p among. packets_rise r later p w (all.each_packet p among);
}

-- ---- the start

any_starts : (r : References) (name : NodeId) (setup : Setup) (works : List Work) → AnyRefers r (any_start name setup works)
any_starts r (Client c) setup works = tt
any_starts r (Manager j) setup works = managers_start r j setup works
any_starts r (Server v) setup works = tt
any_starts r Cleaner setup works = tt
any_starts r Registry setup works = registry_starts r setup works

in_map : {X Y : Type 0} (P : Y → Type 0) (f : X → Y) → ((x : X) → P (f x)) → (xs : List X) (y : Y) → In y (map f xs) → P y
in_map P f each [] y fact = absurd fact
in_map P f each (x ∷ xs) y (inl fact) = subst P (sym fact) (each x)
in_map P f each (x ∷ xs) y (inr later) = in_map P f each xs y later

pub all_begin : (r : References) (e : Estate AnyNode) → AllRefer r (start_world any_start e.script).nodes (start_world any_start e.script).sent
unfolding start_world
all_begin r e = record {
  each_node = in_map (AnyRefers r) (first_node any_start e.script) (λ name. any_starts r name e.script.setup _) (nodes_of (cluster_of e.script.setup));
  each_packet = λ p fact. absurd fact;
}

-- ---- beside one run

module _ (logged : LoggedRun) (part : ℕ) where
  open logged use {base, estate as e, lines}

  -- what flew flew later, too
  flew_then : (count : ℕ) (seg : SegRef) → Flew logged part count seg → Flew logged part (suc count) seg
  flew_then count seg f = record {
    of = record { role = f.of.role; there = f.of.there; own = f.of.own };
    segment = f.segment;
    among = (grows base e f.of.role (lines f.of.role f.of.there) count (suc count) (omega arith)).flown f.segment f.among;
    named = f.named;
    grouped = f.grouped;
  }

  end_then : (count l : ℕ) (end : End) → EndFlew logged part count l end → EndFlew logged part (suc count) l end
  end_then count l end (inl none) = inl none
  end_then count l end (inr f) = inr (flew_then count _ f)

  report_then : (count : ℕ) (from : NodeId) (end : End) → ReportFlew logged part count from end
      → ReportFlew logged part (suc count) from end
  report_then count (Client c) end h = end_then count c end h
  report_then count (Manager j) end h = tt
  report_then count (Server v) end h = tt
  report_then count Cleaner end h = end_then count cleaners_number end h
  report_then count Registry end h = tt

  pub weaker_then : (count : ℕ) → Weaker (its logged part count) (its logged part (suc count))
  weaker_then count = record { part = flew_then count; end = report_then count }

  pub references_begin : ReferencesStand logged part 0
  references_begin = all_begin (its logged part 0) e
