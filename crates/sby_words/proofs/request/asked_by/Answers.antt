use Rattle.std.proofs.Common.{ap, subst, option_map}
use Rattle.std.proofs.lemmas.Result.{IfOk-weaker}
use Rattle.clap.specs.Matches.{found_of}
use Rattle.clap.specs.Walk.{rows_of, texts}
use Rattle.sby_words.specs.declared.form.Form.TheVariants.{Judge, Tasks, Names, Gen}
use Rattle.sby_words.specs.Answers.{request_of}
use Rattle.sby_words.specs.Words.{HasForm}
use Rattle.sby_words.proofs.AskedLemmas.{by_form, no_list}
use Rattle.sby_words.proofs.request.asked_by.Goals as goal

pub returns-in_default-get_strs : goal.returns-in_default-get_strs
returns-in_default-get_strs c =
    no_list c.args.matches.now c.get_strs.result (ap (option_map (λ s. texts s.now)) c.in_default-get_strs.is) c.get_strs.ensures

pub returns-in-Judge : goal.returns-in-Judge
returns-in-Judge c = IfOk-weaker c.judge_asked.result _ _
    (λ asked. by_form c.args.matches.now c.get_str-directory.result c.get_str-jobs.result c.get_strs.result c.in-Some-get_strs.list.now Judge
    (subst (HasForm (rows_of (found_of c.args.matches.now))) c.in-Judge.is c.in-Some.ensures) c.get_str-directory.ensures c.get_str-jobs.ensures c.get_strs.ensures
    (ap (option_map (λ s. texts s.now)) c.in-Some-get_strs.is) (option_map request_of asked)) c.judge_asked.ensures

pub returns-in-Tasks : goal.returns-in-Tasks
returns-in-Tasks c = IfOk-weaker c.tasks_asked.result _ _
    (λ asked. by_form c.args.matches.now c.get_str-directory.result c.get_str-jobs.result c.get_strs.result c.in-Some-get_strs.list.now Tasks
    (subst (HasForm (rows_of (found_of c.args.matches.now))) c.in-Tasks.is c.in-Some.ensures) c.get_str-directory.ensures c.get_str-jobs.ensures c.get_strs.ensures
    (ap (option_map (λ s. texts s.now)) c.in-Some-get_strs.is) (option_map request_of asked)) c.tasks_asked.ensures

pub returns-in-Names : goal.returns-in-Names
returns-in-Names c = IfOk-weaker c.names_asked.result _ _
    (λ asked. by_form c.args.matches.now c.get_str-directory.result c.get_str-jobs.result c.get_strs.result c.in-Some-get_strs.list.now Names
    (subst (HasForm (rows_of (found_of c.args.matches.now))) c.in-Names.is c.in-Some.ensures) c.get_str-directory.ensures c.get_str-jobs.ensures c.get_strs.ensures
    (ap (option_map (λ s. texts s.now)) c.in-Some-get_strs.is) (option_map request_of asked)) c.names_asked.ensures

pub returns-in-Gen : goal.returns-in-Gen
returns-in-Gen c = IfOk-weaker c.gen_asked.result _ _
    (λ asked. by_form c.args.matches.now c.get_str-directory.result c.get_str-jobs.result c.get_strs.result c.in-Some-get_strs.list.now Gen
    (subst (HasForm (rows_of (found_of c.args.matches.now))) c.in-Gen.is c.in-Some.ensures) c.get_str-directory.ensures c.get_str-jobs.ensures c.get_strs.ensures
    (ap (option_map (λ s. texts s.now)) c.in-Some-get_strs.is) (option_map request_of asked)) c.gen_asked.ensures
