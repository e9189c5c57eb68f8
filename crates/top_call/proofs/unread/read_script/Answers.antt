use Rattle.std.proofs.Common.{Err, ap, subst}
use Rattle.script_text.specs.Script.{IsFirstBad, IsScriptOf}
use Rattle.top_call.proofs.unread.read_script.Goals as goal

pub returns-in-Ok-parse-clause-found : goal.returns-in-Ok-parse-clause-found
returns-in-Ok-parse-clause-found g c =
    let found = subst (λ input. IsScriptOf c.args.live input c.in-Ok-parse.script) c.as_bytes.ensures c.in-Ok-parse.ensures.found in
    (c.in-Ok.input, (c.in-Ok.ensures.whole, c.in-Ok.ensures.consumes), found)

pub returns-in-Ok-parse-clause-script : goal.returns-in-Ok-parse-clause-script
returns-in-Ok-parse-clause-script g c =
    (c.args.live, c.in-Ok.input, subst (λ input. IsScriptOf c.args.live input c.in-Ok-parse.script) c.as_bytes.ensures c.in-Ok-parse.ensures.found)

pub returns-in-Err-Bad-clause-cause : goal.returns-in-Err-Bad-clause-cause
returns-in-Err-Bad-clause-cause g c =
    let bad = rw c.in-Err-Bad.field-0-is at c.in-Err-Bad.ensures.cause in (
      c.in-Ok.input,
      (c.in-Ok.ensures.whole, c.in-Ok.ensures.consumes),
      subst (λ input. IsFirstBad c.args.live input c.in-Err-Bad.number c.in-Err-Bad.kind) c.as_bytes.ensures bad,
    )

pub returns-in-Err-Failed-clause-cause : goal.returns-in-Err-Failed-clause-cause
returns-in-Err-Failed-clause-cause g c = c.in-Err-Failed.ensures.failed (ap Err c.in-Err-Failed.field-0-is)
