-- In a segment that tells of each block once, each Block is named by a Delta of its block, and a Delta that names an item names the Block that it has of the
-- block: so it is of all that is filed.
use Rattle.std.proofs.Common.{◌≡◌, ◌<◌, ◌≤◌, ◌==◌, ◌+◌, ℕ, zero, suc, Bool, false, cond, List, [], ◌∷◌, Option, None, Some, inl, inr, slice_get, unwrap_or, sym, ap, subst, ◌∙◌, arith}
use Rattle.std.proofs.lemmas.Bool.Decides.{nat_tests}
use Rattle.std.proofs.lemmas.Option.{slice_get_within}
use Rattle.std.specs.Prelude.{Contains}
use Rattle.std.specs.List.{filter_map}
use Rattle.client_call.specs.Reads.{value_at, value_in}
use Rattle.run_laws.proofs.index_reads.Rows.{deltas_are_said}
use Rattle.headline.specs.Filed.{Filed}
use Rattle.log_protocol.specs.Tables.{In}
use Rattle.run_laws.specs.place_law.Copies.{AreExact, AreNamed, IsExact, IsNamed}
use Rattle.segment_format.specs.declared.segment.Item.{Item}
use Rattle.segment_format.specs.declared.segment.Item.TheVariants.{Block, Delta, Part}
use Rattle.segment_format.specs.declared.segment.Segment.{Segment}
use Rattle.segment_format.specs.Rows.{place_of, row_of}
use Rattle.segment_format.specs.Rule.{KeepsRule, no_item}
use Rattle.run_laws.specs.segment_tie.Segments.{TellsOnce}
use Rattle.xfs_base.proofs.Members.{contains_first, contains_rest}
use Rattle.xfs_base.specs.declared.block.BlockId.{BlockId}
use Rattle.xfs_base.specs.declared.entry.Entry.{Entry}
use Rattle.xfs_base.specs.declared.entry.Place.{Place}

-- ---- the Delta behind a Block

module _ (s : Segment) where
  abbrev entries : List Item → List (BlockId × Entry)
  entries items = filter_map (row_of s) items

  -- among the items from a number on an entry of the block names the item of this number
  record Behind (items : List Item) (number : ℕ) (b : BlockId) : Type 0 where
    ver : ℕ
    hop : ℕ
    has : Contains (entries items) (b, record { ver = ver; hop = hop; place = place_of s number })

  one_block : (a b : BlockId) (v w : Option (List ℕ)) → Some (Block a v) ≡ Some (Block b w) → a ≡ b
  one_block a b v w fact = cc

  another : (items : List Item) (m n : ℕ) (b : BlockId) → m ≡ n → Behind items m b → Behind items n b
  another items m n b same h = subst (λ k. Behind items k b) same h

  behind : (items : List Item) (n i : ℕ) (b : BlockId) (value : Option (List ℕ)) → KeepsRule None n items → slice_get items i ≡ Some (Block b value)
      → Behind items (n + i) b
  behind [] n i b value rule fact = absurd cc
  behind (Block a v ∷ []) n i b value rule fact = absurd rule
  behind (Block a v ∷ Block c w ∷ items) n i b value rule fact = absurd rule
  behind (Block a v ∷ Part slot rows ∷ items) n i b value rule fact = absurd rule
  behind (Block a v ∷ Delta d ver hop item ∷ items) n zero b value rule fact = record {
    ver = ver;
    hop = hop;
    has = subst (λ (x : BlockId × Entry). Contains (entries (Delta d ver hop item ∷ items)) x)
        (λ k. ((rule.0 ∙ one_block a b v value fact) k, record { ver = ver; hop = hop; place = place_of s ((rule.1 ∙ plus n) k) }))
        (contains_first (d, record { ver = ver; hop = hop; place = place_of s item }) (entries items));
  }
    where
      plus : (n : ℕ) → n ≡ n + 0
      plus n = omega arith
  behind (Block a v ∷ Delta d ver hop item ∷ items) n (suc zero) b value rule fact = absurd cc
  behind (Block a v ∷ Delta d ver hop item ∷ items) n (suc (suc i)) b value rule fact =
      let h = behind items (n + 1 + 1) i b value rule.2 fact in
      another (Block a v ∷ Delta d ver hop item ∷ items) (n + 1 + 1 + i) (n + suc (suc i)) b (omega arith) (record {
        ver = h.ver;
        hop = h.hop;
        has = contains_rest (d, record { ver = ver; hop = hop; place = place_of s item }) _ (entries items) h.has;
      })
  behind (Delta d ver hop item ∷ items) n zero b value rule fact = absurd cc
  behind (Delta d ver hop item ∷ items) n (suc i) b value rule fact =
      let h = behind items (n + 1) i b value rule.1 fact in
      another (Delta d ver hop item ∷ items) (n + 1 + i) (n + suc i) b (omega arith) (record {
        ver = h.ver;
        hop = h.hop;
        has = contains_rest (d, record { ver = ver; hop = hop; place = place_of s item }) _ (entries items) h.has;
      })
  behind (Part slot rows ∷ items) n zero b value rule fact = absurd cc
  behind (Part slot rows ∷ items) n (suc i) b value rule fact =
      let h = behind items (n + 1) i b value rule fact in
      another (Part slot rows ∷ items) (n + 1 + i) (n + suc i) b (omega arith) (record { ver = h.ver; hop = h.hop; has = h.has })

  -- ---- a segment that tells once

  module _ (tells : TellsOnce s) where
    is_placed : (i : ℕ) → i < no_item → place_of s i ≡ Some (record { seg = record { name = s.name; group = s.group }; item = i })
    is_placed i less = ap (λ (t : Bool). cond t None (Some (record { seg = record { name = s.name; group = s.group }; item = i }))) (other i no_item less)
      where
        other : (a b : ℕ) → a < b → (a == b) ≡ false
        other a b h = grind (arith, nat_tests)

    its_delta : (b : BlockId) (i : ℕ) (value : Option (List ℕ)) → slice_get s.items i ≡ Some (Block b value) → Behind s.items i b
    its_delta b i value fact = another s.items (0 + i) i b (omega arith) (behind s.items 0 i b value tells.places fact)

    short : (b : BlockId) (i : ℕ) (value : Option (List ℕ)) → slice_get s.items i ≡ Some (Block b value) → i < no_item
    short b i value fact =
        (let less = slice_get_within s.items i (Block b value) fact in let few = tells.plain.few in omega arith)

    pub is_named : IsNamed s
    is_named b i at =
        let d = its_delta b i at.value at.there in
        (record { ver = d.ver; hop = d.hop; place = place_of s i }, d.has, is_placed i (short b i at.value at.there))

    -- where a Block stands
    where_it_is : (items : List Item) (x : Item) → In x items → (i : ℕ) × (slice_get items i ≡ Some x)
    where_it_is [] x fact = absurd fact
    where_it_is (y ∷ items) x (inl same) = (0, ap Some (sym same))
    where_it_is (y ∷ items) x (inr rest) = (let r = where_it_is items x rest in (suc r.0, r.1))

    one_place : (x y : Place) → Some x ≡ Some y → x ≡ y
    one_place x y fact = ap (λ (o : Option Place). unwrap_or o x) fact

    pub is_exact : IsExact s
    is_exact b value e place among has lies =
        let r = where_it_is s.items (Block b value) among in
        let d = its_delta b r.0 value r.1 in
        let there : Entry = record { ver = d.ver; hop = d.hop; place = place_of s r.0 } in
        let same : e ≡ there =
        sym (deltas_are_said s b e tells.plain tells.versioned has) ∙ deltas_are_said s b there tells.plain tells.versioned d.has in
        let at : place ≡ record { seg = record { name = s.name; group = s.group }; item = r.0 } =
        one_place place _ (sym lies ∙ (ap (λ (x : Entry). x.place) same ∙ is_placed r.0 (short b r.0 value r.1))) in
        ap (λ (p : Place). value_at s p.item) at ∙ ap value_in r.1

-- ---- what is filed

pub all_named : (f : Filed) → ((l q : ℕ) → 0 < q → q ≤ f.head l → TellsOnce (f.segment l q)) → AreNamed f
all_named f tells l q some limit = is_named (f.segment l q) (tells l q some limit)

pub all_exact : (f : Filed) → ((l q : ℕ) → 0 < q → q ≤ f.head l → TellsOnce (f.segment l q)) → AreExact f
all_exact f tells l q some limit = is_exact (f.segment l q) (tells l q some limit)
