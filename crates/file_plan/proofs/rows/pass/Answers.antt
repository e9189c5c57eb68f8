use Rattle.std.proofs.Common.{rules, ◌≡◌, ◌<◌, [], ◌∷◌, ◌++◌, length, get_or}
use Rattle.std.specs.declared.cmp.Ordering.TheVariants.{Less, Equal, Greater}
use Rattle.file_plan.specs.Names.{name_cmp}
use Rattle.file_plan.proofs.Merging.{stops_before, stops_at, goes_on, stops_empty}
use Rattle.file_plan.proofs.rows.pass.Goals as goal

pub returns-in-Less : goal.returns-in-Less
returns-in-Less c =
    let key = c.in-Some.field-0.now in
    let some : 0 < length c.loop-key.rest.items = search rules in
    let fact : key ≡ get_or c.loop-key.rest.items 0 key = c.in-Some.ensures.lookup in
    let less : name_cmp c.args.name.now key.0 ≡ Less = search rules in
    stops_before _ _ c.loop-key.all.items c.loop-key.rest.items c.args.name.now key c.loop-key.invariant some fact less

pub returns-in-Equal : goal.returns-in-Equal
returns-in-Equal c =
    let key = c.in-Some.field-0.now in
    let some : 0 < length c.loop-key.rest.items = search rules in
    let fact : key ≡ get_or c.loop-key.rest.items 0 key = c.in-Some.ensures.lookup in
    let equal : name_cmp c.args.name.now key.0 ≡ Equal = search rules in
    stops_at _ _ c.loop-key.all.items c.loop-key.rest.items c.pop_front.new.self.items c.args.name.now key c.loop-key.invariant some fact equal
    c.pop_front.ensures.rest

pub loop-key-preserved-in-Continue-1 : goal.loop-key-preserved-in-Continue-1
loop-key-preserved-in-Continue-1 c =
    let key = c.in-Some.field-0.now in
    let row = c.in-Some-pop_front.row in
    let some : 0 < length c.loop-key.rest.items = search rules in
    let fact : key ≡ get_or c.loop-key.rest.items 0 key = c.in-Some.ensures.lookup in
    let same : row ≡ get_or c.loop-key.rest.items 0 row = c.in-Some-pop_front.ensures.lookup in
    let greater : name_cmp c.args.name.now key.0 ≡ Greater = search rules in
    let more : c.push.new.self.items ≡ c.loop-key.all.items ++ row ∷ [] = search rules in
    goes_on _ _ c.loop-key.all.items c.loop-key.rest.items c.push.new.self.items c.pop_front-in-Greater.new.self.items c.args.name.now key row
    c.loop-key.invariant some fact same greater more c.in-Some-pop_front.ensures.rest

pub returns : goal.returns
returns c =
    let none : length c.loop-key.rest.items ≡ 0 = search rules in
    stops_empty _ _ c.loop-key.all.items c.loop-key.rest.items c.args.name.now c.loop-key.invariant none
