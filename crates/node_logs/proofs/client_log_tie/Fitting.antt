-- What a client puts fits the format of a segment, by the test that it puts by.
use Rattle.std.proofs.Common.{◌≡◌, ◌<◌, ℕ, ◌+◌, ◌^◌, ◌&&◌, Bool, true, List, Option, None, nat_lt, cond, refl, sym, ap, subst, ◌∙◌, arith}
use Rattle.std.proofs.lemmas.Bool.{ltb-true}
use Rattle.client_call.proofs.Fits.{block_is_fit, value_has_bytes, value_has_length}
use Rattle.client_call.specs.Fitting.{block_fits, value_fits, put_fits}
use Rattle.client_running.specs.Blocks.{wrote}
use Rattle.client_serving.specs.declared.serving.Serving.{Serving}
use Rattle.client_serving.specs.Flights.{held_at}
use Rattle.token_client.proofs.Tables.{held_of-put_itself}
use Rattle.token_client.specs.declared.held.Held.{Held}
use Rattle.token_client.specs.Held.{may_write, held_write}
use Rattle.token_client.specs.State.{held_of, with_held}
use Rattle.token_client.specs.Transition.{Done, on_wrote}
use Rattle.xfs_base.proofs.Booleans.{and_first, and_second}
use Rattle.xfs_base.specs.declared.block.BlockId.{BlockId}
use Rattle.xfs_base.specs.declared.entry.Entry.{Entry}
use Rattle.xfs_base.specs.Steps.{still}
use Rattle.client_log.specs.declared.input.In.TheVariants.{Put}
use Rattle.node_logs.specs.client_log_tie.Puts.{PutsOwn}
use Rattle.node_logs.specs.client_log_tie.Texts.{PutFits}

-- what is written to the log of a block that is put
abbrev pub written_as : Serving → BlockId → Option (List ℕ) → Entry
written_as s block value = record { ver = (held_at (wrote s block value) block).ver; hop = 0; place = None }

-- the version of a block that may be written is the next one then
wrote_next : (s : Serving) (block : BlockId) (value : Option (List ℕ)) → may_write (held_at s block) ≡ true
    → (held_at (wrote s block value) block).ver ≡ (held_at s block).ver + 1
unfolding on_wrote
wrote_next s block value may =
    let h : Held = held_write (held_at s block) value in
    let then_is : Bool → Done = λ t. cond t (still (with_held s.tokens block h)) (still s.tokens) in
    ap (λ (t : Bool). (held_of (then_is t).state.blocks block).ver) may ∙ ap (λ h. h.ver) (held_of-put_itself block h s.tokens.blocks)

entry_fits : (block : BlockId) (e : Entry) (ver : ℕ) (value : Option (List ℕ)) → e ≡ record { ver = ver; hop = 0; place = None } → block_fits block ≡ true
    → nat_lt ver (2 ^ 64) ≡ true → value_fits value ≡ true → PutFits block e value
entry_fits block e ver value fact in_range next fits =
    subst (λ (x : Entry). PutFits block x value) (sym fact) (record {
      row = (block_is_fit block in_range, ltb-true ver (2 ^ 64) next, omega arith, tt);
      length = value_has_length value fits;
      bytes = value_has_bytes value fits;
    })

pub put_is_fit : (s : Serving) (block : BlockId) (value : Option (List ℕ)) → may_write (held_at s block) ≡ true
    → put_fits block ((held_at s block).ver + 1) value ≡ true → PutFits block (written_as s block value) value
unfolding put_fits
put_is_fit s block value may h =
    let next : ℕ = (held_at s block).ver + 1 in
    let rest : (nat_lt next (2 ^ 64) && value_fits value) ≡ true = and_second (block_fits block) (nat_lt next (2 ^ 64) && value_fits value) h in
    entry_fits block (written_as s block value) next value (ap (λ (v : ℕ). record { ver = v; hop = 0; place = None }) (wrote_next s block value may))
    (and_first (block_fits block) (nat_lt next (2 ^ 64) && value_fits value) h) (and_first (nat_lt next (2 ^ 64)) (value_fits value) rest)
    (and_second (nat_lt next (2 ^ 64)) (value_fits value) rest)

-- and is a version from 1 on, at first hand
pub put_is_own : (s : Serving) (block : BlockId) (value : Option (List ℕ)) → may_write (held_at s block) ≡ true
    → PutsOwn (Put block (written_as s block value) value)
put_is_own s block value may = (subst (λ n. 0 < n) (sym (wrote_next s block value may)) (some (held_at s block).ver), refl)
  where
    some : (n : ℕ) → 0 < n + 1
    some n = omega arith
