use Rattle.std.proofs.Common.{[]}
use Rattle.web_worker.specs.Setting.{setting_of}
use Rattle.web_http1.specs.Connections.{open_at}
use Rattle.web_http1.proofs.BegunCallLemmas.{as_called}
use Rattle.web_http1.proofs.CallLemmas.{answers_all, answers_whole, is_prefix}
use Rattle.web_http1.proofs.pieces.begun_calls_law.Goals as goal

pub returns-clause-prefix : goal.returns-clause-prefix
returns-clause-prefix g c = λ service pool limits calls new given called.
    is_prefix (setting_of (g.S.Service.completed service) (g.S.Service.promise service) (g.S.Service.left service) g.A.Source.Source.feed pool) limits calls new given
    (as_called (setting_of (g.S.Service.completed service) (g.S.Service.promise service) (g.S.Service.left service) g.A.Source.Source.feed pool) (open_at limits []) calls new given called)

pub returns-clause-whole : goal.returns-clause-whole
returns-clause-whole g c = λ service pool limits calls new given called waits.
    answers_whole (setting_of (g.S.Service.completed service) (g.S.Service.promise service) (g.S.Service.left service) g.A.Source.Source.feed pool) limits calls new given
    (as_called (setting_of (g.S.Service.completed service) (g.S.Service.promise service) (g.S.Service.left service) g.A.Source.Source.feed pool) (open_at limits []) calls new given called) waits

pub returns-clause-all : goal.returns-clause-all
returns-clause-all g c = λ service pool limits calls new given tail end called waits done.
    answers_all (setting_of (g.S.Service.completed service) (g.S.Service.promise service) (g.S.Service.left service) g.A.Source.Source.feed pool) limits calls new given
    (as_called (setting_of (g.S.Service.completed service) (g.S.Service.promise service) (g.S.Service.left service) g.A.Source.Source.feed pool) (open_at limits []) calls new given called) waits end tail done
