use Rattle.std.proofs.Common.{◌≡◌, Ok, Err, sym, refl, subst, arith}
use Rattle.std.proofs.lemmas.Result.{err_from_is_err_and}
use Rattle.fields.specs.Checking.Checked.{good}
use Rattle.script.specs.declared.word.Word.TheVariants.{Bar, Surcharge, Prolong, Lift, Plan, Begin, Treat, Report, Settle}
use Rattle.script.specs.Forms.{check_order}
use Rattle.script.specs.Commands.{order_of}
use Rattle.script.proofs.Ordered.{worded, of_command, of_judge, of_word, few_parts}
use Rattle.script.proofs.reading.command_of.Goals as goal
use Rattle.script.proofs.reading.command_of.Goals.{In_ok-word, in-Bar+in_ok-bar_in-in-Bar, in-Surcharge+in_ok-surcharge_in-in-Surcharge, in-Prolong+in_ok-prolong_in-in-Prolong, in-Lift+in_ok-lift_in-in-Lift, in-Plan+in_ok-plan_in-in-Plan, in-Judge+in_ok-judge_in-in-Judge, in-Begin+in_ok-begin_in-in-Begin, in-Treat, in-Report+in_ok-report_in-in-Report, in-Settle}

pub judge_in-requires : goal.judge_in-requires
judge_in-requires c =
    let few = few_parts c.args.line.text.now in
    let place = c.cut.ensures.after.place_is in
    omega arith

pub returns-in_err-judge_in-in-Judge : goal.returns-in_err-judge_in-in-Judge
returns-in_err-judge_in-in-Judge c =
    let p = err_from_is_err_and c.from_residual-in_err-judge_in-in-Judge.result c.from_residual-in_err-judge_in-in-Judge.ensures.1 in
    let h = worded c.of.ensures.0 c.of.ensures.1 c.of.ensures.2 c.cut.ensures.field c.cut.ensures.after c.in_ok-word.ensures c.fields_following-count.ensures c.if-count-fields.false c.fields.ensures in
    rw (p.1, p.2) (of_judge (Err c.in_err-judge_in-in-Judge.field-0.0) c.in-Judge.is h c.fields_following-count.ensures c.in_err-judge_in-in-Judge.ensures)

pub returns : goal.returns
returns c =
    let h = worded c.of.ensures.0 c.of.ensures.1 c.of.ensures.2 c.cut.ensures.field c.cut.ensures.after c.in_ok-word.ensures c.fields_following-count.ensures c.if-count-fields.false c.fields.ensures in
    let k = c.args.line.number in
    let t = c.args.line.text.now in
    elim c.match-word.branch [
      | in-Bar+in_ok-bar_in-in-Bar w ↦ of_command Bar w.in_ok-bar_in-in-Bar.field-0 c.match-word.result w.in-Bar.is h w.in_ok-bar_in-in-Bar.ensures w.result-is
      | in-Surcharge+in_ok-surcharge_in-in-Surcharge w ↦ of_command Surcharge w.in_ok-surcharge_in-in-Surcharge.field-0 c.match-word.result w.in-Surcharge.is h w.in_ok-surcharge_in-in-Surcharge.ensures w.result-is
      | in-Prolong+in_ok-prolong_in-in-Prolong w ↦ of_command Prolong w.in_ok-prolong_in-in-Prolong.field-0 c.match-word.result w.in-Prolong.is h w.in_ok-prolong_in-in-Prolong.ensures w.result-is
      | in-Lift+in_ok-lift_in-in-Lift w ↦ of_command Lift w.in_ok-lift_in-in-Lift.field-0 c.match-word.result w.in-Lift.is h w.in_ok-lift_in-in-Lift.ensures w.result-is
      | in-Plan+in_ok-plan_in-in-Plan w ↦ of_command Plan w.in_ok-plan_in-in-Plan.field-0 c.match-word.result w.in-Plan.is h w.in_ok-plan_in-in-Plan.ensures w.result-is
      | in-Judge+in_ok-judge_in-in-Judge w ↦ subst (λ c. check_order k t ≡ good (order_of c)) (sym w.result-is) (of_judge (Ok w.in_ok-judge_in-in-Judge.field-0) w.in-Judge.is h c.fields_following-count.ensures w.in_ok-judge_in-in-Judge.ensures)
      | in-Begin+in_ok-begin_in-in-Begin w ↦ of_command Begin w.in_ok-begin_in-in-Begin.field-0 c.match-word.result w.in-Begin.is h w.in_ok-begin_in-in-Begin.ensures w.result-is
      | in-Treat w ↦ of_word Treat _ c.match-word.result w.in-Treat.is h (λ n. refl) refl w.result-is
      | in-Report+in_ok-report_in-in-Report w ↦ of_command Report w.in_ok-report_in-in-Report.field-0 c.match-word.result w.in-Report.is h w.in_ok-report_in-in-Report.ensures w.result-is
      | in-Settle w ↦ of_word Settle _ c.match-word.result w.in-Settle.is h (λ n. refl) refl w.result-is
    ]
