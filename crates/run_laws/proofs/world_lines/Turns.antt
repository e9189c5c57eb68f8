-- The line of a log begins empty, stays in what others do, and goes on by what its owner acts to be filed.
use Rattle.std.proofs.Common.{◌≡◌, ◌<◌, ◌≤◌, ◌==◌, ℕ, suc, Bool, true, false, cond, List, [], ◌∷◌, refl, sym, ap, subst, ◌∙◌, arith}
use Rattle.std.proofs.lemmas.Bool.{eqb-true}
use Rattle.std.proofs.lemmas.Bool.Decides.{nat_tests}
use Rattle.client_log.specs.Transition.{has_next}
use Rattle.headline.specs.Filed.{Filed, Texts}
use Rattle.index_tie.specs.Growth.{IsMore, with_segment}
use Rattle.log_law.proofs.Filing.{Grown, grown}
use Rattle.log_law.specs.Ends.{EndsAreLast}
use Rattle.log_law.specs.Laws.{LogsStayWhole}
use Rattle.log_law.specs.Net.{Net, Owner}
use Rattle.log_law.specs.Net.Owner.{Down, Opening, Writing, Serving}
use Rattle.log_law.specs.Restarts.{is_serving}
use Rattle.log_law.specs.Written.{WhatFlewIsWritten}
use Rattle.log_protocol.specs.Tables.{In}
use Rattle.log_tie.specs.Setting.{Setting}
use Rattle.node_base.specs.declared.effects.Effect.{Effect}
use Rattle.node_base.specs.declared.effects.Effect.TheVariants.{Send, Answer, Lose, Does}
use Rattle.node_slots.proofs.owner_index_tie.Frames.{more_after}
use Rattle.node_slots.proofs.owner_index_tie.Growing.{head_is, segment_is}
use Rattle.node_slots.specs.owner_index_tie.CleanerEvents.{NewFor}
use Rattle.node_slots.specs.owner_index_tie.ClientEvents.{IsNewerAtSlot}
use Rattle.node_slots.specs.owner_index_tie.Filing.{FilesOwed, IsSameLog, OwedAct, OwedEffect, after_act, after_effect, filed_after, with_name}
use Rattle.segment_format.specs.declared.segment.Segment.{Segment}
use Rattle.version_model.specs.declared.act.Act.{Act}
use Rattle.version_model.specs.declared.act.Act.TheVariants.{Filed as ActsFiled}
use Rattle.xfs_base.proofs.Booleans.{by_test}
use Rattle.xfs_base.specs.Limits.{u32_end}
use Rattle.xfs_base.specs.declared.segment.SegName.{SegName}
use Rattle.xfs_base.specs.Logs.{cleaners_number}
use Rattle.run_laws.proofs.world_lines.Lines.{flown_fits, flown_segment}
use Rattle.run_laws.specs.world_lines.Lines.{IsLined, IsSure, SaysBlocks}
use Rattle.run_laws.specs.world_lines.Turns.{ActSo, AllNew, AllSo, EffectSo, CleanersFilesAreOwed, ClientsFilesAreOwed, LinesBegin, LinesGoOn, LinesStay, NewAct, NewEffect}

pub lines_begin : LinesBegin
lines_begin l g m any = record {
  lined = record { flown = λ q some limit. absurd (omega arith); filed = λ q some limit. absurd (omega arith); seq = λ q some limit. absurd (omega arith) };
  all = λ name fact. absurd fact;
}

-- what stays of a log
lined_as : (l : ℕ) (o : Net) (f h : Filed) → IsSameLog l f h → IsLined l o f → IsLined l o h
lined_as l o f h same k = record {
  flown = λ q some limit. let m = upto q limit in subst (λ (s : Segment). In s o.flown) (sym (same.segment q some m)) (k.flown q some m);
  filed = λ q some limit. let m = upto q limit in subst (λ (s : Segment). In s.name o.filed) (sym (same.segment q some m)) (k.filed q some m);
  seq = λ q some limit. let m = upto q limit in ap (λ (s : Segment). s.name.seq) (same.segment q some m) ∙ k.seq q some m;
}
  where
    upto : (q : ℕ) → q ≤ h.head l → q ≤ f.head l
    upto q limit = (let e = same.head in omega arith)

-- what flew and was filed stays so
lined_on : (l : ℕ) (n o : Net) (f : Filed) → ((s : Segment) → In s n.flown → In s o.flown) → ((name : SegName) → In name n.filed → In name o.filed)
    → IsLined l n f
    → IsLined l o f
lined_on l n o f flown filed k = record {
  flown = λ q some limit. flown (f.segment l q) (k.flown q some limit);
  filed = λ q some limit. filed (f.segment l q).name (k.filed q some limit);
  seq = k.seq;
}

pub lines_stay : LinesStay
lines_stay l n o f h filed flown same k = record {
  lined = lined_as l o f h same
      (lined_on l n o f (λ s fact. subst (In s) (sym flown) fact) (λ name fact. subst (In name) (sym filed) fact) k.lined);
  all = λ name fact. (let a = k.all name (subst (In name) filed fact) in (a.0, let b = a.1 in let e = same.head in omega arith));
}

-- a segment that is filed leaves those of other numbers
pub older : (f : Filed) (l : ℕ) (s : Segment) (q : ℕ) → (q == suc (f.head l)) ≡ false → (with_segment f l s).segment l q ≡ f.segment l q
older f l s q other = by (l == l) (q == suc (f.head l)) other
  where
    by : (t u : Bool) → u ≡ false → cond t (cond u s (f.segment l q)) (f.segment l q) ≡ f.segment l q
    by true true fact = absurd cc
    by true false fact = refl
    by false u fact = refl

-- ---- the text of a filed name

module _ (whole : LogsStayWhole) (texts : Texts) (l : ℕ) (g : Setting) (o : Net) (k : IsSure texts l g o) where
  -- it flew, and is that name's
  pub record Flew (name : SegName) : Type 0 where
    pub flown : In (texts name) o.flown
    pub named : (texts name).name ≡ name

  pub flew : (name : SegName) → In name o.filed → Flew name
  flew name fact =
      let s = (whole g o k.moment).flown name fact in
      let same : texts name ≡ s.0 = ap texts (sym s.2) ∙ k.are_texts s.0 s.1 in
      record { flown = subst (λ (x : Segment). In x o.flown) (sym same) s.1; named = ap (λ (x : Segment). x.name) same ∙ s.2 }

  -- ---- what is filed next is owed

  module _ (written : WhatFlewIsWritten) (New : Filed → Segment → Type 0) where
    owed_name : (f : Filed) (name : SegName) → In name o.filed → has_next name.seq ≡ true → SaysBlocks (texts name)
        → (name.seq ≡ suc (f.head l) → New f (texts name)) → OwedAct New texts l f (ActsFiled name)
    owed_name f name fact short says new at =
        let t = flew name fact in record {
          named = t.named;
          segment = flown_segment written texts l g o k (texts name) (suc (f.head l)) t.flown (ap (λ (x : SegName). x.seq) t.named ∙ at) says;
          new = new at;
          fits = flown_fits written texts l g o k (texts name) t.flown;
          short = (let less : name.seq < u32_end = below name.seq short in omega arith);
        }
      where
        below : (q : ℕ) → has_next q ≡ true → q < u32_end
        below q fact = grind (arith, nat_tests, fact)

    owed_act : (f : Filed) (a : Act) → ActSo (λ name. In name o.filed) a → ActSo (λ name. has_next name.seq ≡ true) a
        → ActSo (λ name. SaysBlocks (texts name)) a → NewAct New texts l f a → OwedAct New texts l f a
    owed_act f (ActsFiled name) fact short says new = owed_name f name fact short says new
    owed_act f _ fact short says new = tt

    owed_effect : (f : Filed) (e : Effect) → EffectSo (λ name. In name o.filed) e → EffectSo (λ name. has_next name.seq ≡ true) e
        → EffectSo (λ name. SaysBlocks (texts name)) e → NewEffect New texts l f e → OwedEffect New texts l f e
    owed_effect f (Send to m) fact short says new = tt
    owed_effect f (Answer item answer) fact short says new = tt
    owed_effect f (Lose seg) fact short says new = tt
    owed_effect f (Does act) fact short says new = owed_act f act fact short says new

    pub owed : (f : Filed) (outs : List Effect) → AllSo (λ name. In name o.filed) outs → AllSo (λ name. has_next name.seq ≡ true) outs
        → AllSo (λ name. SaysBlocks (texts name)) outs → AllNew New texts l f outs → FilesOwed New texts l f outs
    owed f [] fact short says new = tt
    owed f (e ∷ es) fact short says new =
        (owed_effect f e fact.0 short.0 says.0 new.0, owed (after_effect texts l f e) es fact.1 short.1 says.1 new.1)

  -- ---- what is filed then is lined

  lined_next : (f : Filed) (s : Segment) → In s o.flown → In s.name o.filed → s.name.seq ≡ suc (f.head l) → IsLined l o f → IsLined l o (with_segment f l s)
  lined_next f s flown filed seq h = record {
    flown = λ q some limit. at (λ q x. In x o.flown) flown (λ q some limit. h.flown q some limit) q some limit;
    filed = λ q some limit. at (λ q x. In x.name o.filed) filed (λ q some limit. h.filed q some limit) q some limit;
    seq = λ q some limit. at (λ q x. x.name.seq ≡ q) seq (λ q some limit. h.seq q some limit) q some limit;
  }
    where
      later : Filed
      later = with_segment f l s

      at : (P : ℕ → Segment → Type 0) → P (suc (f.head l)) s → ((q : ℕ) → 0 < q → q ≤ f.head l → P q (f.segment l q)) → (q : ℕ) → 0 < q → q ≤ later.head l
          → P q (later.segment l q)
      at P new was q some limit = by (q == suc (f.head l)) refl
        where
          within : q ≤ suc (f.head l)
          within = (let e = head_is l f s in omega arith)

          by : (t : Bool) → (q == suc (f.head l)) ≡ t → P q (later.segment l q)
          by true fact =
              let same : q ≡ suc (f.head l) = eqb-true q (suc (f.head l)) fact in
              subst (λ r. P r (later.segment l r)) (sym same) (subst (P (suc (f.head l))) (sym (segment_is l f s)) new)
          by false other = subst (P q) (sym (older f l s q other)) (was q some (let w = within in grind (arith, nat_tests, w, other)))

  lined_name : (f : Filed) (name : SegName) → In name o.filed → IsLined l o f → IsLined l o (with_name texts l f name)
  lined_name f name fact h =
      let t = flew name fact in
      by_test (IsLined l o) (name.seq == suc (f.head l)) (with_segment f l (texts name)) f
      (λ next. lined_next f (texts name) t.flown (subst (λ x. In x o.filed) (sym t.named) fact)
      (ap (λ (x : SegName). x.seq) t.named ∙ eqb-true name.seq (suc (f.head l)) next) h)
      (λ _. h)

  lined_act : (f : Filed) (a : Act) → ActSo (λ name. In name o.filed) a → IsLined l o f → IsLined l o (after_act texts l f a)
  lined_act f (ActsFiled name) fact h = lined_name f name fact h
  lined_act f _ fact h = h

  lined_effect : (f : Filed) (e : Effect) → EffectSo (λ name. In name o.filed) e → IsLined l o f → IsLined l o (after_effect texts l f e)
  lined_effect f (Send to m) fact h = h
  lined_effect f (Answer item answer) fact h = h
  lined_effect f (Lose seg) fact h = h
  lined_effect f (Does act) fact h = lined_act f act fact h

  pub lined_after : (f : Filed) (outs : List Effect) → AllSo (λ name. In name o.filed) outs → IsLined l o f → IsLined l o (filed_after texts l f outs)
  lined_after f [] fact h = h
  lined_after f (e ∷ es) fact h = lined_after (after_effect texts l f e) es fact.1 (lined_effect f e fact.0 h)

pub clients_files_are_owed : WhatFlewIsWritten → LogsStayWhole → ClientsFilesAreOwed
clients_files_are_owed written whole part texts c g o f outs k acts says new =
    owed whole texts c g o k written (IsNewerAtSlot part) f outs acts.filed acts.short says new

pub cleaners_files_are_owed : WhatFlewIsWritten → LogsStayWhole → CleanersFilesAreOwed
cleaners_files_are_owed written whole part texts n p g o f outs k acts says new =
    owed whole texts cleaners_number g o k written (NewFor part texts n p) f outs acts.filed acts.short says new

-- ---- the owner's turn

pub lines_go_on : LogsStayWhole → EndsAreLast → LinesGoOn
lines_go_on whole last texts l g n o f outs h t = record {
  lined = lined_after whole texts l g o t.sure f outs t.acts (lined_on l n o f stays.flown stays.filed h.lined);
  all = λ name fact. by o.owner refl name fact;
}
  where
    stays : Grown n o
    stays = grown g n o t.run

    more : IsMore f (filed_after texts l f outs)
    more = more_after texts l f outs

    still : is_serving o.owner ≡ false → (name : SegName) → In name o.filed → (0 < name.seq) × (name.seq ≤ (filed_after texts l f outs).head l)
    still none name fact =
        let a = h.all name (subst (In name) (t.still none) fact) in (a.0, let b = a.1 in let c = more.head l in omega arith)

    by : (x : Owner) → o.owner ≡ x → (name : SegName) → In name o.filed → (0 < name.seq) × (name.seq ≤ (filed_after texts l f outs).head l)
    by Down e = still (ap is_serving e)
    by (Opening s) e = still (ap is_serving e)
    by (Writing chain s) e = still (ap is_serving e)
    by (Serving s) e = λ name fact.
        let k = last g o t.sure.trusted t.sure.moment t.sure.sure s e in
        (k.some name fact, let a = k.last name fact in let b = t.end s e in omega arith)
