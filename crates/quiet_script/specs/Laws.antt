-- What is so of each script that is accepted.
use Rattle.node_base.specs.Setups.{IsSetup}
use Rattle.script_print.specs.Printing.{IsScript}
use Rattle.script_text.specs.declared.script.Script.{Script}
use Rattle.quiet_script.specs.Quiet.{IsOrderly}
use Rattle.headline.specs.Bounds.{IsQuiet}

-- where a run of its setup can be started and it is quiet, it is orderly
abbrev pub AcceptedIsOrderly : Type 0
AcceptedIsOrderly = (script : Script) → IsSetup script.setup → IsScript script → IsQuiet script → IsOrderly script
