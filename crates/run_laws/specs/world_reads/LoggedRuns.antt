-- A run of the nodes with what is known of its logs.
use Rattle.std.specs.Prelude.{ℕ}
use Rattle.core_world.specs.declared.any_node.AnyNode.{AnyNode}
use Rattle.log_tie.specs.Setting.{Setting}
use Rattle.segment_format.specs.declared.segment.Segment.{Segment}
use Rattle.world_base.specs.declared.estate.Estate.{Estate}
use Rattle.run_laws.specs.world_logs.Lines.{HasLines, Texts}

pub record LoggedRun : Type 0 where
  -- what the logs are set in, and the run
  pub base : Setting
  pub estate : Estate AnyNode
  -- the small world of each log, and the one text that each name has in them
  pub lines : HasLines base estate
  pub texts : Texts base estate lines
  -- the segments with which the index of a slot begins, by log and seq
  pub first : ℕ → ℕ → Segment

-- what the index begins with under each name is the text of that
abbrev pub first_of : (base : Setting) (e : Estate AnyNode) (lines : HasLines base e) → Texts base e lines → ℕ → ℕ → Segment
first_of base e lines texts l q = texts.text (record { log = record { 0 = l }; seq = q; pass = record { inc = 0; att = 0 } })

abbrev pub logged_run : (base : Setting) (e : Estate AnyNode) (lines : HasLines base e) → Texts base e lines → LoggedRun
logged_run base e lines texts = record { base = base; estate = e; lines = lines; texts = texts; first = first_of base e lines texts }
