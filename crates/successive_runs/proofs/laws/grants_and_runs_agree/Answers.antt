use Rattle.successive_runs.proofs.Agreed.{files_agree, words_agree}
use Rattle.successive_runs.proofs.laws.grants_and_runs_agree.Goals as goal

pub returns-clause-files : goal.returns-clause-files
returns-clause-files c held catalog key owner house one read also = files_agree held catalog key owner house one read also

pub returns-clause-words : goal.returns-clause-words
returns-clause-words c held catalog key owner amount workers granting running loading bytes one runs answers grants grant =
    words_agree held catalog key owner amount workers granting running loading bytes one runs answers grants grant
