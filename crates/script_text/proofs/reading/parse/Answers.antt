use Rattle.script_text.proofs.Bounds.{few_found}
use Rattle.script_text.proofs.Parsing.{found, cause, found_if_any, refused_if_bad}
use Rattle.script_text.proofs.reading.parse.Goals as goal

pub returns-clause-found : goal.returns-clause-found
returns-clause-found c = found c.args.live c.args.bytes.now c.read_script.result c.read_script.ensures

pub returns-clause-cause : goal.returns-clause-cause
returns-clause-cause c = cause c.args.live c.args.bytes.now c.read_script.result c.read_script.ensures

pub returns-clause-found_if_any : goal.returns-clause-found_if_any
returns-clause-found_if_any c = found_if_any c.args.live c.args.bytes.now c.read_script.result c.read_script.ensures

pub returns-clause-refused_if_bad : goal.returns-clause-refused_if_bad
returns-clause-refused_if_bad c = refused_if_bad c.args.live c.args.bytes.now c.read_script.result c.read_script.ensures

pub returns-clause-few : goal.returns-clause-few
returns-clause-few c =
    few_found c.args.live c.args.bytes.now c.read_script.result (found c.args.live c.args.bytes.now c.read_script.result c.read_script.ensures)
