use Rattle.std.proofs.Common.{◌≡◌, not, refl, sym, ap}
use Rattle.std.specs.Prelude.{Some, None, is_some}
use Rattle.fragment_store.specs.Calls.{refusal, shelf_store}
use Rattle.store_nodes.proofs.Refusals.{not_memory, none_refused, no_error, unrefused, refused_for}
use Rattle.store_nodes.proofs.shelf_events.keeps.Goals as goal

pub returns-in-Ok-clause-shelf : goal.returns-in-Ok-clause-shelf
returns-in-Ok-clause-shelf c =
    let refused = refusal c.args.shelf.now c.args.fragment.meta.name c.args.generation in
    let none : refused ≡ None =
    none_refused refused (λ e ne fact. no_error c.in-Ok.field-0 e ((c.in-Ok.ensures.refused e ne).1 fact))
    (not_memory c.args.shelf.now c.args.fragment.meta.name c.args.generation) in
    unrefused refused c.store.new.self c.args.shelf.now (shelf_store c.args.shelf.now c.args.fragment) none c.in-Ok.ensures.ok

pub returns-in-Ok-clause-kept : goal.returns-in-Ok-clause-kept
returns-in-Ok-clause-kept c =
    let refused = refusal c.args.shelf.now c.args.fragment.meta.name c.args.generation in
    let none : refused ≡ None =
    none_refused refused (λ e ne fact. no_error c.in-Ok.field-0 e ((c.in-Ok.ensures.refused e ne).1 fact))
    (not_memory c.args.shelf.now c.args.fragment.meta.name c.args.generation) in
    sym (ap (λ r. not (is_some r)) none)

pub returns-in-Err-WrongGeneration-clause-shelf : goal.returns-in-Err-WrongGeneration-clause-shelf
returns-in-Err-WrongGeneration-clause-shelf c =
    let refused = refusal c.args.shelf.now c.args.fragment.meta.name c.args.generation in
    let e = c.in-Err-WrongGeneration in
    let why : refused ≡ Some e.field-0 = (e.ensures.refused e.field-0 (λ m. cc (m, e.field-0-is))).0 refl in
    refused_for refused e.field-0 c.store.new.self c.args.shelf.now (shelf_store c.args.shelf.now c.args.fragment) why e.ensures.err

pub returns-in-Err-WrongGeneration-clause-kept : goal.returns-in-Err-WrongGeneration-clause-kept
returns-in-Err-WrongGeneration-clause-kept c =
    let refused = refusal c.args.shelf.now c.args.fragment.meta.name c.args.generation in
    let e = c.in-Err-WrongGeneration in
    let why : refused ≡ Some e.field-0 = (e.ensures.refused e.field-0 (λ m. cc (m, e.field-0-is))).0 refl in
    sym (ap (λ r. not (is_some r)) why)

pub returns-in-Err-Marked-clause-shelf : goal.returns-in-Err-Marked-clause-shelf
returns-in-Err-Marked-clause-shelf c =
    let refused = refusal c.args.shelf.now c.args.fragment.meta.name c.args.generation in
    let e = c.in-Err-Marked in
    let why : refused ≡ Some e.field-0 = (e.ensures.refused e.field-0 (λ m. cc (m, e.field-0-is))).0 refl in
    refused_for refused e.field-0 c.store.new.self c.args.shelf.now (shelf_store c.args.shelf.now c.args.fragment) why e.ensures.err

pub returns-in-Err-Marked-clause-kept : goal.returns-in-Err-Marked-clause-kept
returns-in-Err-Marked-clause-kept c =
    let refused = refusal c.args.shelf.now c.args.fragment.meta.name c.args.generation in
    let e = c.in-Err-Marked in
    let why : refused ≡ Some e.field-0 = (e.ensures.refused e.field-0 (λ m. cc (m, e.field-0-is))).0 refl in
    sym (ap (λ r. not (is_some r)) why)

pub returns-in-Err-Fenced-clause-shelf : goal.returns-in-Err-Fenced-clause-shelf
returns-in-Err-Fenced-clause-shelf c =
    let refused = refusal c.args.shelf.now c.args.fragment.meta.name c.args.generation in
    let e = c.in-Err-Fenced in
    let why : refused ≡ Some e.field-0 = (e.ensures.refused e.field-0 (λ m. cc (m, e.field-0-is))).0 refl in
    refused_for refused e.field-0 c.store.new.self c.args.shelf.now (shelf_store c.args.shelf.now c.args.fragment) why e.ensures.err

pub returns-in-Err-Fenced-clause-kept : goal.returns-in-Err-Fenced-clause-kept
returns-in-Err-Fenced-clause-kept c =
    let refused = refusal c.args.shelf.now c.args.fragment.meta.name c.args.generation in
    let e = c.in-Err-Fenced in
    let why : refused ≡ Some e.field-0 = (e.ensures.refused e.field-0 (λ m. cc (m, e.field-0-is))).0 refl in
    sym (ap (λ r. not (is_some r)) why)
