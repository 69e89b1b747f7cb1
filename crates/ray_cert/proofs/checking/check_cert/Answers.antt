use Rattle.std.proofs.Common.{◌∙◌, ap, option_map}
use Rattle.ray_geom.specs.Ratio.{parts_of}
use Rattle.ray_top.specs.Trees.{without_tree}
use Rattle.ray_cert.specs.Parts.{parts_of_ray}
use Rattle.ray_cert.proofs.AllFound.{IsGiven, named-answer, parts-apart}
use Rattle.ray_cert.proofs.Deciding.{gathered-apart, none-exact, some-supports-as, told-gathered}
use Rattle.ray_cert.proofs.checking.check_cert.Goals as goal

pub name_played-played-requires : goal.name_played-played-requires
name_played-played-requires g c =
    let a = c.args in
    let end = parts_of a.ray.now.tmax in
    let ps = parts_of_ray a.top.now.contents a.stated.now.bottoms.now a.ray.now a.options.flags a.options.mask in
    let told = told-gathered end c.limit_of-limit.result c.named.result a.cert.now ps c.strings-strings.result.now
    (option_map (λ v. v.items) c.in_ok-gather_tested.field-0) c.named.ensures c.limit_of-limit.ensures c.strings-strings.ensures
    c.in_ok-gather_tested.ensures.value in
    let given : IsGiven (without_tree a.top.now) a.stated.now.bottoms.now a.ray.now = record {
      limits = c.len-limits.ensures.limits;
      standing = c.requires.standing;
      sound = c.sound.ensures;
      is_ray = c.tmax-most.ensures.limits;
    } in
    gathered-apart (g.C.Client.meaning a.client.now) a.options.number a.options.flags end ps a.cert.now c.in-Some.found.items
    (told ∙ ap (option_map (λ v. v.items)) c.in-Some.is)
    (parts-apart (without_tree a.top.now) a.stated.now.bottoms.now a.ray.now a.options.flags a.options.mask given)

pub returns-in-None-clause-exact : goal.returns-in-None-clause-exact
returns-in-None-clause-exact g c =
    let a = c.args in
    let end = parts_of a.ray.now.tmax in
    let ps = parts_of_ray a.top.now.contents a.stated.now.bottoms.now a.ray.now a.options.flags a.options.mask in
    none-exact (g.C.Client.meaning a.client.now) a.options.number a.options.flags end ps a.cert.now
    (told-gathered end c.limit_of-limit.result c.named.result a.cert.now ps c.strings-strings.result.now
    (option_map (λ v. v.items) c.in_ok-gather_tested.field-0) c.named.ensures c.limit_of-limit.ensures c.strings-strings.ensures
    c.in_ok-gather_tested.ensures.value ∙ ap (option_map (λ v. v.items)) c.in-None.is)

pub returns-in-Some-clause-exact : goal.returns-in-Some-clause-exact
returns-in-Some-clause-exact g c =
    let a = c.args in
    let end = parts_of a.ray.now.tmax in
    let ps = parts_of_ray a.top.now.contents a.stated.now.bottoms.now a.ray.now a.options.flags a.options.mask in
    some-supports-as (g.C.Client.meaning a.client.now) a.options.number a.options.flags end ps a.cert.now c.in-Some.found.items
    (told-gathered end c.limit_of-limit.result c.named.result a.cert.now ps c.strings-strings.result.now
    (option_map (λ v. v.items) c.in_ok-gather_tested.field-0) c.named.ensures c.limit_of-limit.ensures c.strings-strings.ensures
    c.in_ok-gather_tested.ensures.value ∙ ap (option_map (λ v. v.items)) c.in-Some.is)
    c.is_named.result c.name_played-played.result c.named-in-Some.result c.name_played-played.ensures c.named-in-Some.ensures c.is_named.ensures

pub returns-in-Some-clause-law : goal.returns-in-Some-clause-law
returns-in-Some-clause-law g c =
    let a = c.args in
    let end = parts_of a.ray.now.tmax in
    let ps = parts_of_ray a.top.now.contents a.stated.now.bottoms.now a.ray.now a.options.flags a.options.mask in
    let meaning = g.C.Client.meaning a.client.now in
    let given : IsGiven (without_tree a.top.now) a.stated.now.bottoms.now a.ray.now = record {
      limits = c.len-limits.ensures.limits;
      standing = c.requires.standing;
      sound = c.sound.ensures;
      is_ray = c.tmax-most.ensures.limits;
    } in
    let decides = some-supports-as meaning a.options.number a.options.flags end ps a.cert.now c.in-Some.found.items
    (told-gathered end c.limit_of-limit.result c.named.result a.cert.now ps c.strings-strings.result.now
    (option_map (λ v. v.items) c.in_ok-gather_tested.field-0) c.named.ensures c.limit_of-limit.ensures c.strings-strings.ensures
    c.in_ok-gather_tested.ensures.value ∙ ap (option_map (λ v. v.items)) c.in-Some.is)
    c.is_named.result c.name_played-played.result c.named-in-Some.result c.name_played-played.ensures c.named-in-Some.ensures c.is_named.ensures in
    λ supports. named-answer (without_tree a.top.now) a.stated.now.bottoms.now a.ray.now a.options.flags a.options.mask given meaning a.options.number a.cert.now (decides.0 supports)
