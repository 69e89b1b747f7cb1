use Rattle.std.proofs.Common.{◌∙◌, ap}
use Rattle.ray_walk.proofs.Together.{four_of, meets_told}
use Rattle.ray_walk.proofs.meeting.meets_triangle.Goals as goal

pub returns : goal.returns
returns c =
    let a = c.args in
    meets_told a.window.now a.a a.b a.c c.lanes-lo.result c.lanes-hi.result c.lanes-a.result c.lanes-b.result c.lanes-c.result
    (record {
      lo_is = c.lanes-lo.ensures.value;
      hi_is = c.lanes-hi.ensures.value;
      a_is = c.lanes-a.ensures.value ∙ ap four_of c.words.ensures;
      b_is = c.lanes-b.ensures.value ∙ ap four_of c.words-2.ensures;
      c_is = c.lanes-c.ensures.value ∙ ap four_of c.words-3.ensures;
      lo_fit = c.lanes-lo.ensures.fit;
      hi_fit = c.lanes-hi.ensures.fit;
      a_fit = c.lanes-a.ensures.fit;
      b_fit = c.lanes-b.ensures.fit;
      c_fit = c.lanes-c.ensures.fit;
    })
