use Rattle.std.specs.Prelude.{IfOk}
use Rattle.std.proofs.Common.{◌≡◌, List, ap, sym, subst, ◌∙◌}
use Rattle.std.specs.List.{All}
use Rattle.std.proofs.lemmas.Result.{IfOk-weaker}
use Rattle.kind_sites.specs.declared.site.Site.{Site}
use Rattle.c_types.specs.Table.{Entry}
use Rattle.cil_form.specs.declared.program.Program.{Program}
use Rattle.cil_form.specs.Shape.{IsSiteInShape}
use Rattle.cil_form.specs.Told.{AreSitesTold, objects_of}
use Rattle.constraint_laws.specs.Given.{AreGiven}
use Rattle.constraint_laws.proofs.Laws.{given_is_a_solution, given_is_apart, given_is_within}
use Rattle.kind_constraints.proofs.listing.constraints.Goals as goal

-- what two tables and two lists of sites that are the same have in common
moved : (P : List Entry → List Site → Type 0) (table other : List Entry) (sites those : List Site) → table ≡ other → sites ≡ those → P table sites → P other those
moved P table other sites those e f h = subst (λ (t : List Entry). P t those) e (subst (λ (s : List Site). P table s) f h)

pub list_of-requires-clause-told : goal.list_of-requires-clause-told
list_of-requires-clause-told c =
    let code = c.args.code.now in
    let whole = c.program.view_is ∙ c.program-program.ensures.same in
    let types : c.in_ok-asked.asked.types.now ≡ code.types = c.in_ok-asked.ensures.same.0 ∙ ap (λ (p : Program). p.types) whole in
    let sites : c.in_ok-asked.asked.sites.now ≡ code.sites = c.in_ok-asked.ensures.same.1 ∙ c.deref.ensures.value ∙ ap (λ (p : Program). p.sites) whole in (
      code.nodes,
      objects_of code,
      moved (λ table sites. All (IsSiteInShape table code.nodes) sites) code.types c.in_ok-asked.asked.types.now code.sites c.in_ok-asked.asked.sites.now (sym types) (sym sites)
          c.program-program.ensures.in_shape.sites,
      moved (λ table sites. AreSitesTold table (objects_of code) sites) code.types c.in_ok-asked.asked.types.now code.sites c.in_ok-asked.asked.sites.now (sym types) (sym sites) c.requires,
    )

pub returns-clause-members : goal.returns-clause-members
returns-clause-members c =
    let code = c.args.code.now in
    let whole = c.program.view_is ∙ c.program-program.ensures.same in
    let types : c.in_ok-asked.asked.types.now ≡ code.types = c.in_ok-asked.ensures.same.0 ∙ ap (λ (p : Program). p.types) whole in
    let sites : c.in_ok-asked.asked.sites.now ≡ code.sites = c.in_ok-asked.ensures.same.1 ∙ c.deref.ensures.value ∙ ap (λ (p : Program). p.sites) whole in
    moved (λ table sites. IfOk c.list_of.result (λ list. AreGiven table sites list.items)) c.in_ok-asked.asked.types.now code.types c.in_ok-asked.asked.sites.now code.sites types sites c.list_of.ensures

pub returns-clause-within : goal.returns-clause-within
returns-clause-within c =
    let code = c.args.code.now in
    let shape = c.program-program.ensures.in_shape in
    IfOk-weaker c.list_of.result _ _
    (λ list g. given_is_within code.types (objects_of code) code.sites c.requires code.nodes shape.sites shape.formed list.items g) (returns-clause-members c)

pub returns-clause-apart : goal.returns-clause-apart
returns-clause-apart c =
    let code = c.args.code.now in
    let shape = c.program-program.ensures.in_shape in
    IfOk-weaker c.list_of.result _ _
    (λ list g. given_is_apart code.types (objects_of code) code.sites c.requires code.nodes shape.sites shape.formed list.items g) (returns-clause-members c)

pub returns-clause-solutions : goal.returns-clause-solutions
returns-clause-solutions c = λ kind.
    let code = c.args.code.now in
    IfOk-weaker c.list_of.result _ _
    (λ list g. given_is_a_solution code.types (objects_of code) code.sites c.requires list.items g kind) (returns-clause-members c)
